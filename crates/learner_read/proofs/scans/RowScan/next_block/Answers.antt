use Rattle.std.proofs.Common.{◌≡◌, Some, ap, take, drop, arith}
use Rattle.learner_read.specs.Scans.{answers_of}
use Rattle.learner_read.proofs.Going.{give_found, give_new}
use Rattle.learner_read.proofs.scans.RowScan.next_block.Goals as goal

pub returns-then-self-len-clause-exact : goal.returns-then-self-len-clause-exact
returns-then-self-len-clause-exact g c = λ tells sound.
    give_found g.R.Grip.Gripped.bytes c.args.self.now.snapshot.now (answers_of g.F.Fn c.args.self.now.sieve.now.test) c.args.self.now.sieve.now.bound c.args.self.now.snapshot.now.pack_rows c.args.self.now.part c.give.new.self.part (drop c.args.self.now.next (take c.args.self.now.to c.args.self.now.snapshot.now.pieces)) (drop c.give.new.self.next (take c.args.self.now.to c.args.self.now.snapshot.now.pieces)) c.args.self.now.found c.give.new.self.found c.args.self.now.given c.give.new.self.given c.give.result (λ e. c.give.new.self.failed ≡ Some e)
    c.give.ensures.state.2 (ap (λ n. drop n (take c.args.self.now.to c.args.self.now.snapshot.now.pieces)) c.give.ensures.state.0) c.give.ensures.state.3 c.give.ensures.block c.give.ensures.fails

pub returns-in-Ok-true-clause-exact : goal.returns-in-Ok-true-clause-exact
returns-in-Ok-true-clause-exact g c = λ tells sound.
    give_new g.R.Grip.Gripped.bytes c.args.self.now.snapshot.now (answers_of g.F.Fn c.args.self.now.sieve.now.test) c.args.self.now.sieve.now.bound c.find.new.self.snapshot.now.pack_rows c.args.self.now.part c.find.new.self.part c.give-in-Ok-true.new.self.part (drop c.args.self.now.next (take c.args.self.now.to c.args.self.now.snapshot.now.pieces)) (drop c.find.new.self.next (take c.args.self.now.to c.args.self.now.snapshot.now.pieces)) (drop c.give-in-Ok-true.new.self.next (take c.args.self.now.to c.args.self.now.snapshot.now.pieces)) c.args.self.now.found c.find.new.self.found c.give-in-Ok-true.new.self.found c.args.self.now.given c.find.new.self.given c.give-in-Ok-true.new.self.given c.in-Ok-true.field-0 c.give-in-Ok-true.result (λ e. c.give-in-Ok-true.new.self.failed ≡ Some e)
    (omega (arith, c.if-self-len.false, c.len.ensures)) c.in-Ok-true.field-0-test (c.in-Ok-true.ensures.exact tells) c.in-Ok-true.ensures.rows
    c.give-in-Ok-true.ensures.state.2 (ap (λ n. drop n (take c.args.self.now.to c.args.self.now.snapshot.now.pieces)) c.give-in-Ok-true.ensures.state.0) c.give-in-Ok-true.ensures.state.3 c.give-in-Ok-true.ensures.block c.give-in-Ok-true.ensures.fails

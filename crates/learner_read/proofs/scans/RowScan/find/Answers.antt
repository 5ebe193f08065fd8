use Rattle.std.proofs.Common.{take, drop}
use Rattle.learner_read.specs.Parts.{LeftIn}
use Rattle.learner_read.specs.Scans.{answers_of}
use Rattle.learner_read.proofs.Going.{none_step}
use Rattle.learner_read.proofs.scans.RowScan.find.Goals as goal

pub returns-in-Ok-None-clause-exact : goal.returns-in-Ok-None-clause-exact
returns-in-Ok-None-clause-exact g c = λ tells. none_step g.R.Grip.Gripped.bytes c.args.self.now.snapshot.now (answers_of g.F.Fn c.args.self.now.sieve.now.test) c.args.self.now.sieve.now.bound (λ next part. LeftIn g.R.Grip.Gripped.bytes c.args.self.now.snapshot.now (answers_of g.F.Fn c.args.self.now.sieve.now.test) c.args.self.now.sieve.now.bound part (drop next (take c.args.self.now.to c.args.self.now.snapshot.now.pieces))) c.args.self.now.part c.take-part.result c.take-part.new.self c.args.self.now.snapshot.now.pieces c.args.self.now.next c.args.self.now.to c.in-Ok-None.field-0 c.in-Ok-None.field-0-is c.take-part.ensures.value c.take-part.ensures.after (c.in-Ok-None.ensures.exact tells)

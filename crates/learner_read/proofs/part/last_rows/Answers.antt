use Rattle.std.proofs.Common.{◌≡◌, None}
use Rattle.learner_read.specs.Scans.{answers_of}
use Rattle.learner_read.proofs.Turns.{last_left, of_rest}
use Rattle.learner_read.proofs.part.last_rows.Goals as goal

pub returns-in-Ok-clause-exact : goal.returns-in-Ok-clause-exact
returns-in-Ok-clause-exact g c = last_left g.G.Gripped.bytes c.args.snapshot.now (answers_of g.F.Fn c.args.sieve.now.test) c.args.piece.now c.args.part c.rest_of-rest.result c.in-Ok.rows c.rest_of-rest.ensures c.in-Ok.ensures.exact

pub returns-in-Ok-clause-rows : goal.returns-in-Ok-clause-rows
returns-in-Ok-clause-rows g c = record { some = λ has. absurd (cc has); rows = c.in-Ok.ensures.rows; of = of_rest c.args.piece.now.range c.rest_of-rest.result c.args.part.from c.in-Ok.rows c.rest_of-rest.ensures c.in-Ok.ensures.of }

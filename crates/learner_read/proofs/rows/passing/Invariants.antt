use Rattle.learner_read.specs.Scans.{answers_of}
use Rattle.learner_read.proofs.Testing.{Picked}
use Rattle.learner_read.proofs.rows.passing.Given as goal

abbrev pub invariant-loop-i : goal.invariant-loop-i
invariant-loop-i g l = Picked (answers_of g.F.Fn l.sieve.test) l.rows l.i l.places.items

use Rattle.std.proofs.Common.{sym, subst}
use Rattle.learner_read.specs.Parts.{GivesInPiece}
use Rattle.learner_read.specs.Scans.{answers_of}
use Rattle.learner_read.proofs.Going.{in_part}
use Rattle.learner_read.proofs.scans.in_piece.Goals as goal

pub returns-in-Some-clause-exact : goal.returns-in-Some-clause-exact
returns-in-Some-clause-exact g c = λ tells. subst (λ o. GivesInPiece g.R.Grip.Gripped.bytes c.args.snapshot.now (answers_of g.F.Fn c.args.sieve.now.test) c.args.sieve.now.bound o c.args.piece.now c.next_of_piece.result) (sym c.in-Some.is) (in_part g.R.Grip.Gripped.bytes c.args.snapshot.now (answers_of g.F.Fn c.args.sieve.now.test) c.args.sieve.now.bound c.args.piece.now c.in-Some.part c.next_of_piece.result (c.next_of_piece.ensures.exact tells))

pub returns-in-None-clause-exact : goal.returns-in-None-clause-exact
returns-in-None-clause-exact g c = λ tells. subst (λ o. GivesInPiece g.R.Grip.Gripped.bytes c.args.snapshot.now (answers_of g.F.Fn c.args.sieve.now.test) c.args.sieve.now.bound o c.args.piece.now c.in_new.result) (sym c.in-None.is) (c.in_new.ensures.exact tells)

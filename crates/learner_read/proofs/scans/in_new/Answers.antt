use Rattle.std.proofs.Common.{◌≡◌, ◌∙◌, true, false, sym}
use Rattle.learner_read.specs.Pieces.{is_needed}
use Rattle.learner_read.specs.Scans.{answers_of}
use Rattle.learner_read.proofs.Going.{in_new, in_none}
use Rattle.learner_read.proofs.scans.in_new.Goals as goal

pub returns-then-not-is_needed-clause-exact : goal.returns-then-not-is_needed-clause-exact
returns-then-not-is_needed-clause-exact g c = λ tells.
    let out : is_needed c.args.snapshot.now.clip c.args.snapshot.now.cuts c.args.piece.now.range ≡ false = (λ i. is_needed (sym c.clip.ensures i) (sym c.cuts.ensures.order i) c.args.piece.now.range) ∙ sym c.is_needed.ensures ∙ c.if-not-is_needed.true in
    in_none g.R.Grip.Gripped.bytes c.args.snapshot.now (answers_of g.F.Fn c.args.sieve.now.test) c.args.sieve.now.bound c.args.piece.now c.new.result c.new.ensures out

pub returns-clause-exact : goal.returns-clause-exact
returns-clause-exact g c = λ tells.
    let needed : is_needed c.args.snapshot.now.clip c.args.snapshot.now.cuts c.args.piece.now.range ≡ true = (λ i. is_needed (sym c.clip.ensures i) (sym c.cuts.ensures.order i) c.args.piece.now.range) ∙ sym c.is_needed.ensures ∙ c.if-not-is_needed.false in
    in_new g.R.Grip.Gripped.bytes c.args.snapshot.now (answers_of g.F.Fn c.args.sieve.now.test) c.args.sieve.now.bound c.args.piece.now c.new-2.result c.next_of_piece.result needed c.new-2.ensures.from c.new-2.ensures.before c.new-2.ensures.next (c.next_of_piece.ensures.exact tells)

use Rattle.std.proofs.Common.{◌∙◌, sym, ap, arith, nat_eq}
use Rattle.std.proofs.lemmas.Bool.{eq-eqb}
use Rattle.segment_list.specs.Slots.{Slotted}
use Rattle.segment_list.proofs.Listed.{first_at, nowhere}
use Rattle.segment_list.proofs.segments.place_with.Goals as goal

pub returns-then-id : goal.returns-then-id
returns-then-id g c = sym (first_at (λ (s : Slotted g.row.G.Denot). nat_eq s.id c.args.id) c.args.slots.now c.loop-i.i c.index-slots-i.result c.loop-i-test.true (eq-eqb _ c.args.id (ap (λ (s : Slotted g.row.G.Denot). s.id) (sym c.index-slots-i.is) ∙ sym c.id.ensures ∙ c.if-id.true)) (λ j less. c.loop-i.invariant j c.index-slots-i.result less))

pub returns : goal.returns
returns g c = sym (nowhere (λ (s : Slotted g.row.G.Denot). nat_eq s.id c.args.id) c.args.slots.now (λ k d lt. c.loop-i.invariant k d (omega (arith, lt, c.loop-i-test.false))))

use Rattle.std.proofs.Common.{◌≡◌, ◌∙◌, sym, ap, ℕ, ℤ, to_z, of_z, w64}
use Rattle.std.proofs.lemmas.Int.{to_z-of_z}
use Rattle.flash_types.specs.Ranges.{is_below, least_handle}
use Rattle.segment_snapshot.proofs.Needed.{all_before, all_needed, with_next}
use Rattle.segment_snapshot.proofs.snapshots.views_from.Goals as goal

pub returns-then-not-is_below : goal.returns-then-not-is_below
returns-then-not-is_below g c =
    let back : to_z w64 (of_z w64 c.low.result) ≡ c.low.result = to_z-of_z w64 c.low.result (record { sfits = c.low.type_inv }) in
    let same : to_z w64 (of_z w64 c.low.result) ≡ c.index-slots-i.result.range.low = back ∙ c.low.ensures in
    all_needed c.args.clip c.args.cuts.now c.args.slots.now c.loop-i.i c.loop-i.pieces.items
    (all_before c.args.clip c.args.cuts.now least_handle c.args.slots.now c.loop-i.i c.index-slots-i.result c.requires.cover c.loop-i-test.true (ap (λ s. is_below s.range.low c.args.clip.high) (sym c.index-slots-i.is) ∙ ap (λ (x : ℤ). is_below x c.args.clip.high) (sym same) ∙ sym c.is_below.ensures ∙ c.if-not-is_below.true))
    c.loop-i.invariant

pub loop-i-preserved : goal.loop-i-preserved
loop-i-preserved g c = with_next c.args.clip c.args.cuts.now c.args.slots.now c.loop-i.i c.index-slots-i.result c.loop-i.pieces.items c.add.new.pieces.items c.loop-i-test.true c.index-slots-i.is c.told.ensures c.in_ok-add.ensures c.loop-i.invariant

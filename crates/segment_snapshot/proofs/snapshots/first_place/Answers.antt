use Rattle.std.proofs.Common.{◌≡◌, ◌∙◌, sym, ap, ℤ, true, int_le, Some, position, to_z, of_z, w64}
use Rattle.std.proofs.lemmas.Int.{to_z-of_z}
use Rattle.flash_types.specs.Ranges.{holds, least_handle}
use Rattle.segment_list.specs.Slots.{Slotted}
use Rattle.segment_snapshot.proofs.Needed.{is_handle, none_before}
use Rattle.segment_snapshot.proofs.snapshots.first_place.Goals as goal

pub returns-in-Some-clause-before : goal.returns-in-Some-clause-before
returns-in-Some-clause-before g c = λ cuts.
    let back : to_z w64 (of_z w64 c.low_of.result) ≡ c.low_of.result = to_z-of_z w64 c.low_of.result (record { sfits = c.low_of.type_inv }) in
    let low : int_le least_handle c.args.clip.low ≡ true = ap (int_le least_handle) (sym c.low_of.ensures) ∙ is_handle c.low_of.result (record { sfits = c.low_of.type_inv }) in
    none_before c.args.clip cuts least_handle c.args.list.now c.in-Some.place c.covers.ensures low
    (ap (λ (x : ℤ). position (λ (s : Slotted g.row.G.Denot). holds s.range x) c.args.list.now) (sym (back ∙ c.low_of.ensures)) ∙ sym c.slot_at.ensures ∙ c.in-Some.is)

pub returns-in-Some-clause-begins : goal.returns-in-Some-clause-begins
returns-in-Some-clause-begins g c = ap (int_le least_handle) (sym c.low_of.ensures) ∙ is_handle c.low_of.result (record { sfits = c.low_of.type_inv })

pub returns-in-None-clause-begins : goal.returns-in-None-clause-begins
returns-in-None-clause-begins g c = ap (int_le least_handle) (sym c.low_of.ensures) ∙ is_handle c.low_of.result (record { sfits = c.low_of.type_inv })

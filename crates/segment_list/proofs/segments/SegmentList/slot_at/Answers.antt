use Rattle.std.proofs.Common.{◌≡◌, ◌∙◌, sym, ap, subst, ℤ, position, to_z, of_z, w64}
use Rattle.std.proofs.lemmas.Int.{to_z-of_z}
use Rattle.flash_types.specs.Ranges.{all_handles, holds, least_handle}
use Rattle.segment_list.specs.Lists.{Cover}
use Rattle.segment_list.specs.Slots.{Slotted}
use Rattle.segment_list.proofs.Listed.{cover_from}
use Rattle.segment_list.proofs.segments.SegmentList.slot_at.Goals as goal

pub place_of-requires : goal.place_of-requires
place_of-requires g c = subst (Cover all_handles) (sym c.as_slice.ensures.value) (cover_from least_handle c.self.inside.slots.items c.self.invariant.cover)

pub returns : goal.returns
returns g c =
    let same : to_z w64 (of_z w64 c.args.handle) ≡ c.args.handle = to_z-of_z w64 c.args.handle c.ranges.handle in
    c.place_of.ensures
    ∙ ap (λ (x : ℤ). position (λ (s : Slotted g.row.G.Denot). holds s.range x) c.as_slice.result.now) same
    ∙ ap (position (λ (s : Slotted g.row.G.Denot). holds s.range c.args.handle)) (c.as_slice.ensures.value ∙ c.self.view_is)

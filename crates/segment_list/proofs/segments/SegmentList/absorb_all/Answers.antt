use Rattle.std.proofs.Common.{◌∙◌, ap, map}
use Rattle.std.specs.BTreeMap.{get}
use Rattle.std.specs.Ordering.{nat_cmp}
use Rattle.flash_types.specs.Ranges.{least_handle}
use Rattle.segment_list.specs.Slots.{key_of}
use Rattle.segment_list.proofs.Listed.{cover_from, same_keys, segments_stay}
use Rattle.segment_list.proofs.segments.SegmentList.absorb_all.Goals.{in-Ok, in-Err}
use Rattle.segment_list.proofs.segments.SegmentList.absorb_all.Goals as goal

pub absorb_slots-requires : goal.absorb_slots-requires
absorb_slots-requires g c = cover_from least_handle c.self.inside.slots.items c.self.invariant.cover

pub invariant_of-self : goal.invariant_of-self
invariant_of-self g c = elim c.match-absorb_slots.branch [
  | in-Ok w ↦ segments_stay (get nat_cmp c.self.inside.lows) c.self.inside.all_noted c.absorb_slots.new.slots.items c.self.inside.slots.items (ap (map key_of) w.in-Ok.ensures.ok ∙ same_keys c.args.tag c.args.clears c.args.adds.now c.self.inside.slots.items) c.self.invariant
  | in-Err w ↦ segments_stay (get nat_cmp c.self.inside.lows) c.self.inside.all_noted c.absorb_slots.new.slots.items c.self.inside.slots.items (ap (map key_of) w.in-Err.ensures.err) c.self.invariant
]

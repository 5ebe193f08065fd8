use Rattle.std.specs.BTreeMap.{get}
use Rattle.std.specs.Ordering.{nat_cmp}
use Rattle.flash_types.specs.Ranges.{least_handle}
use Rattle.segment_list.proofs.Listed.{cover_from, segments_stay}
use Rattle.segment_list.proofs.segments.SegmentList.take_back_all.Goals as goal

pub take_back_slots-requires : goal.take_back_slots-requires
take_back_slots-requires g c = cover_from least_handle c.self.inside.slots.items c.self.invariant.cover

pub invariant_of-self : goal.invariant_of-self
invariant_of-self g c = segments_stay (get nat_cmp c.self.inside.lows) c.self.inside.all_noted c.take_back_slots.new.slots.items c.self.inside.slots.items c.take_back_slots.ensures.keys c.self.invariant

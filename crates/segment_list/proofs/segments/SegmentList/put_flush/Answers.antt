use Rattle.std.specs.BTreeMap.{get}
use Rattle.std.specs.Ordering.{nat_cmp}
use Rattle.segment_list.proofs.Listed.{segments_stay}
use Rattle.segment_list.proofs.segments.SegmentList.put_flush.Goals as goal

pub invariant_of-self : goal.invariant_of-self
invariant_of-self g c = segments_stay (get nat_cmp c.self.inside.lows) c.self.inside.all_noted c.put_at.new.slots.items c.self.inside.slots.items c.put_at.ensures.keys c.self.invariant

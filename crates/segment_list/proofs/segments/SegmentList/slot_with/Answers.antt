use Rattle.std.proofs.Common.{sym, subst}
use Rattle.std.specs.BTreeMap.{get}
use Rattle.std.specs.Ordering.{nat_cmp}
use Rattle.segment_list.specs.Lists.{AreNoted}
use Rattle.segment_list.proofs.segments.SegmentList.slot_with.Goals as goal

pub noted_place-requires-clause-noted : goal.noted_place-requires-clause-noted
noted_place-requires-clause-noted g c = subst (AreNoted (get nat_cmp c.self.inside.lows)) (sym c.as_slice.ensures.value) (c.self.invariant.found c.if-self.true)

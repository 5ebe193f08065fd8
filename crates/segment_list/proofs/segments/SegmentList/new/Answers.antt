use Rattle.std.proofs.Common.{subst}
use Rattle.std.specs.BTreeMap.{get}
use Rattle.std.specs.Ordering.{nat_cmp}
use Rattle.segment_list.specs.Lists.{AreNoted}
use Rattle.segment_list.proofs.segments.SegmentList.new.Goals as goal

pub invariant_of-result : goal.invariant_of-result
invariant_of-result g c = record {
  cover = c.requires.cover;
  numbers = c.requires.numbers;
  found = λ yes. subst (AreNoted (get nat_cmp c.in_ok-lows.lows)) c.as_slice.ensures.value c.in_ok-lows.ensures;
}

use Rattle.std.proofs.Common.{◌≡◌, ◌≤◌, ◌++◌, take, drop, length}
use Rattle.segment_flush.specs.Flushing.{flushed_slots, has_more, plans_of}
use Rattle.segment_flush.proofs.puts.put_all.Given as goal

abbrev pub invariant-loop-place : goal.invariant-loop-place
invariant-loop-place g l = record {
  within : l.place ≤ length l.fn.list;
  planned : l.flushes.items ≡ take l.place (plans_of has_more l.from l.fn.list);
  slots : l.list ≡ take l.place l.fn.list ++ drop l.place (flushed_slots has_more l.from l.fn.list);
}

abbrev pub decreases-loop-place : goal.decreases-loop-place
decreases-loop-place g l = l.place

use Rattle.std.proofs.Common.{◌≡◌, take}
use Rattle.segment_flush.specs.Flushing.{after_slots, has_more, plans_of}
use Rattle.segment_flush.proofs.plans.plan_all.Given as goal

abbrev pub invariant-loop-i : goal.invariant-loop-i
invariant-loop-i g l = (l.flushes.items ≡ plans_of has_more l.from (take l.i l.list)) × (l.next ≡ after_slots has_more l.from (take l.i l.list))

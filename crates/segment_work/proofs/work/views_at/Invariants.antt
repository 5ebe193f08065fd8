use Rattle.std.proofs.Common.{◌≡◌, ◌-◌, drop, map, take}
use Rattle.segment_list.specs.Slots.{view_of}
use Rattle.segment_work.proofs.work.views_at.Given as goal

abbrev pub invariant-loop-i : goal.invariant-loop-i
invariant-loop-i g l = l.views ≡ map view_of (take (l.i - l.place) (drop l.place l.slots))

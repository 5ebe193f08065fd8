use Rattle.std.proofs.Common.{take}
use Rattle.segment_snapshot.specs.Views.{AreNeeded}
use Rattle.segment_snapshot.proofs.snapshots.views_from.Given as goal

abbrev pub invariant-loop-i : goal.invariant-loop-i
invariant-loop-i g l = AreNeeded l.clip l.cuts (take l.i l.slots) l.pieces.items

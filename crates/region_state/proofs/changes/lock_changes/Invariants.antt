use Rattle.std.proofs.Common.{◌≡◌, take}
use Rattle.region_state.specs.Settling.{lock_changes}
use Rattle.region_state.proofs.changes.lock_changes.Given as goal

abbrev pub invariant-loop-op : goal.invariant-loop-op
invariant-loop-op l = l.changes.entries ≡ lock_changes (take l.op-index l.ops)

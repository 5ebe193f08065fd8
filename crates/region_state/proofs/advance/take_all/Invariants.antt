use Rattle.std.proofs.Common.{take}
use Rattle.committed_log.specs.Store.{Store}
use Rattle.region_state.specs.Folding.{after_all}
use Rattle.region_state.specs.Standing.{AreOf}
use Rattle.region_state.proofs.advance.take_all.Given as goal

abbrev pub invariant-loop-op : goal.invariant-loop-op
invariant-loop-op l = (s : Store) → AreOf s l.fn.values.entries l.fn.locks.entries → AreOf (after_all s (take l.op-index l.ops)) l.values.entries l.locks.entries

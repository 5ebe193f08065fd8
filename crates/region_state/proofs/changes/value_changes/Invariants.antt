use Rattle.std.proofs.Common.{take}
use Rattle.committed_log.proofs.Maps.{Rise}
use Rattle.committed_log.specs.Store.{Store, value_cmp}
use Rattle.region_state.specs.Folding.{after_all}
use Rattle.region_state.specs.Standing.{Stands}
use Rattle.region_state.proofs.changes.value_changes.Given as goal

abbrev pub invariant-loop-op : goal.invariant-loop-op
invariant-loop-op l = (s : Store) → Rise value_cmp s.values → Stands s.values l.changes (after_all s (take l.op-index l.ops))

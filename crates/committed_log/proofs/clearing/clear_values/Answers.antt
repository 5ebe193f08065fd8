use Rattle.std.proofs.Common.{refl}
use Rattle.std.specs.BTreeMap.{get}
use Rattle.committed_log.specs.Store.{value_cmp}
use Rattle.committed_log.proofs.Cleared.{value_end}
use Rattle.committed_log.proofs.clearing.clear_values.Goals as goal

pub returns : goal.returns
returns g c = value_end c.args.range g.store (get value_cmp c.loop-handle.values) (c.in_default.ensures.none refl) c.loop-handle.invariant

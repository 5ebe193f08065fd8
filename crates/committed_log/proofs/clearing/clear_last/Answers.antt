use Rattle.std.proofs.Common.{refl}
use Rattle.std.specs.BTreeMap.{get}
use Rattle.std.specs.Ordering.{int_cmp}
use Rattle.committed_log.proofs.Cleared.{last_end}
use Rattle.committed_log.proofs.clearing.clear_last.Goals as goal

pub returns : goal.returns
returns g c = last_end c.args.range g.store (get int_cmp c.loop-handle.last) (c.in_default.ensures.none refl) c.loop-handle.invariant

use Rattle.std.proofs.Common.{◌≡◌, ℤ, false}
use Rattle.std.specs.BTreeMap.{get, btree_map_len}
use Rattle.std.specs.Ordering.{int_cmp}
use Rattle.flash_types.specs.Ranges.{holds}
use Rattle.committed_log.specs.Store.{last_commit}
use Rattle.committed_log.proofs.clearing.clear_last.Given as goal

abbrev pub invariant-loop-handle : goal.invariant-loop-handle
invariant-loop-handle g l = (h : ℤ) → holds l.range h ≡ false → get int_cmp l.last h ≡ last_commit g.store.commits h

abbrev pub decreases-loop-handle : goal.decreases-loop-handle
decreases-loop-handle g l = btree_map_len l.last

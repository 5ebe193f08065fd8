use Rattle.std.proofs.Common.{◌≡◌, ℕ, ℤ, false}
use Rattle.std.specs.BTreeMap.{get, btree_map_len}
use Rattle.flash_types.specs.Ranges.{holds}
use Rattle.committed_log.specs.Families.{held}
use Rattle.committed_log.specs.Store.{value, value_cmp}
use Rattle.committed_log.proofs.clearing.clear_values.Given as goal

abbrev pub invariant-loop-handle : goal.invariant-loop-handle
invariant-loop-handle g l = (h : ℤ) (start : ℕ) → holds l.range h ≡ false → held (get value_cmp l.values (h, start)) ≡ value g.store.values h start

abbrev pub decreases-loop-handle : goal.decreases-loop-handle
decreases-loop-handle g l = btree_map_len l.values

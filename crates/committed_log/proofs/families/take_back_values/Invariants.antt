use Rattle.std.proofs.Common.{◌≡◌, ℕ, ℤ, vec_len}
use Rattle.std.specs.BTreeMap.{get}
use Rattle.committed_log.specs.Families.{CanUndo, held, undone}
use Rattle.committed_log.specs.Store.{value, value_cmp}
use Rattle.committed_log.proofs.families.take_back_values.Given as goal

abbrev pub invariant-loop-handle : goal.invariant-loop-handle
invariant-loop-handle g l = record {
  can : CanUndo value_cmp l.undo.items (get value_cmp l.values);
  back : (h : ℤ) (start : ℕ) → held (undone value_cmp l.undo.items (get value_cmp l.values) (h, start)) ≡ value g.before.values h start;
}

abbrev pub decreases-loop-handle : goal.decreases-loop-handle
decreases-loop-handle g l = vec_len l.undo

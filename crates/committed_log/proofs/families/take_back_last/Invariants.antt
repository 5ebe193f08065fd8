use Rattle.std.proofs.Common.{◌≡◌, ℤ, vec_len}
use Rattle.std.specs.BTreeMap.{get}
use Rattle.std.specs.Ordering.{int_cmp}
use Rattle.committed_log.specs.Families.{CanUndo, undone}
use Rattle.committed_log.specs.Store.{last_commit}
use Rattle.committed_log.proofs.families.take_back_last.Given as goal

abbrev pub invariant-loop-handle : goal.invariant-loop-handle
invariant-loop-handle g l = record {
  can : CanUndo int_cmp l.undo.items (get int_cmp l.last);
  back : (h : ℤ) → undone int_cmp l.undo.items (get int_cmp l.last) h ≡ last_commit g.before.commits h;
}

abbrev pub decreases-loop-handle : goal.decreases-loop-handle
decreases-loop-handle g l = vec_len l.undo

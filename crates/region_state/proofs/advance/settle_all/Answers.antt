use Rattle.std.proofs.Common.{◌∙◌, ap, subst}
use Rattle.std.specs.BTreeMap.{is_at, get}
use Rattle.std.specs.Map.{lookup}
use Rattle.std.specs.Ordering.{int_cmp}
use Rattle.committed_log.proofs.Maps.{Rise}
use Rattle.committed_log.specs.Store.{value_cmp}
use Rattle.region_state.specs.Standing.{seen}
use Rattle.region_state.proofs.Folds.{values_done, locks_done}
use Rattle.region_state.proofs.advance.settle_all.Goals as goal

pub returns-clause-ok : goal.returns-clause-ok
returns-clause-ok c = λ s are. record {
  all_values = values_done s c.args.ops.now c.in_ok-value_changes.value_changes c.settle.new.map (c.in_ok-value_changes.ensures s (subst (Rise value_cmp) are.all_values c.in-Ok.ensures.was_ordered)) c.settle.ensures.ordered
      (λ q. ap (lookup (is_at (value_cmp q))) c.settle.ensures.entries ∙ c.in-Ok.ensures.found q ∙ ap (λ vs. seen (get value_cmp c.in_ok-value_changes.value_changes q) (lookup (is_at (value_cmp q)) vs)) are.all_values);
  all_locks = locks_done s c.args.ops.now c.in_ok-lock_changes.lock_changes c.settle-2.new.map c.in_ok-lock_changes.ensures (subst (Rise int_cmp) are.all_locks c.in-Ok-make_room.ensures.was_ordered) c.settle-2.ensures.ordered
      (λ q. ap (lookup (is_at (int_cmp q))) c.settle-2.ensures.entries ∙ c.in-Ok-make_room.ensures.found q ∙ ap (λ ls. seen (get int_cmp c.in_ok-lock_changes.lock_changes q) (lookup (is_at (int_cmp q)) ls)) are.all_locks);
}

use Rattle.std.proofs.Common.{refl, sym, subst, take}
use Rattle.committed_log.specs.Store.{Store}
use Rattle.region_state.specs.Standing.{Stands}
use Rattle.region_state.specs.Folding.{after_all}
use Rattle.region_state.proofs.Planning.{stands_first, all_more}
use Rattle.region_state.proofs.changes.value_changes.Goals as goal

pub loop-op-init : goal.loop-op-init
loop-op-init c = λ s rise. stands_first s.values c.new-changes.result s c.new-changes.ensures.empty rise refl

pub loop-op-preserved : goal.loop-op-preserved
loop-op-preserved c = λ s rise. subst (λ (t : Store). Stands s.values c.change_value.new.changes t) (sym (all_more s c.args.ops.now c.loop-op.op-index c.op-item.result c.loop-op-test.true c.op-item.is))
    (c.in_ok-change_value.ensures s.values (after_all s (take c.loop-op.op-index c.args.ops.now)) (c.loop-op.invariant s rise))

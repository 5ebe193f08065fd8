use Rattle.std.proofs.Common.{sym, subst, ◌∙◌, ap, map, take}
use Rattle.committed_log.specs.Store.{Store}
use Rattle.region_state.specs.Standing.{Stands}
use Rattle.region_state.specs.Folding.{after_all, version_of}
use Rattle.region_state.proofs.Planning.{stands_first, all_more, versions_more}
use Rattle.region_state.proofs.plan.each_version.Goals as goal

pub loop-op-init : goal.loop-op-init
loop-op-init c = record {
  versions = λ s values none. c.new-block.ensures ∙ sym (ap (map (version_of c.args.schema.now)) none);
  stands = λ s values. stands_first c.args.values.now.entries c.new-changes.result s c.new-changes.ensures.empty c.len-len.ensures.ordered values;
}

pub loop-op-preserved : goal.loop-op-preserved
loop-op-preserved c = record {
  versions = λ s values none. versions_more s c.args.ops.now c.loop-op.op-index c.op-item.result c.loop-op-test.true c.op-item.is c.args.schema.now c.loop-op.block c.step.new.block (c.loop-op.invariant.versions s values none)
      (c.in_ok-step.ensures.commits (after_all s (take c.loop-op.op-index c.args.ops.now)) (c.loop-op.invariant.stands s values));
  stands = λ s values. subst (λ (t : Store). Stands c.args.values.now.entries c.step.new.changes t) (sym (all_more s c.args.ops.now c.loop-op.op-index c.op-item.result c.loop-op-test.true c.op-item.is))
      (c.in_ok-step.ensures.stands (after_all s (take c.loop-op.op-index c.args.ops.now)) (c.loop-op.invariant.stands s values));
}

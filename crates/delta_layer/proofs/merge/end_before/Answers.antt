use Rattle.std.proofs.Common.{◌∙◌, sym, arith}
use Rattle.column_block.specs.declared.cell.Version.{Version}
use Rattle.column_block.specs.Order.{is_before}
use Rattle.delta_layer.proofs.Places.{prefix_on, prefix_stop}
use Rattle.delta_layer.proofs.merge.end_before.Goals as goal

pub returns-then-not-is_before : goal.returns-then-not-is_before
returns-then-not-is_before c = record {
  place = sym (prefix_stop (λ (w : Version). is_before w c.args.version.now) c.args.all.now c.loop-to.to c.at.result.now c.at.ensures (sym c.is_before.ensures ∙ c.if-not-is_before.true)) ∙ c.loop-to.invariant;
  within = omega arith;
}

pub loop-to-preserved : goal.loop-to-preserved
loop-to-preserved c = sym (prefix_on (λ (w : Version). is_before w c.args.version.now) c.args.all.now c.loop-to.to c.at.result.now c.at.ensures (sym c.is_before.ensures ∙ c.if-not-is_before.false)) ∙ c.loop-to.invariant

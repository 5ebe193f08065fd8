use Rattle.std.proofs.Common.{◌∙◌, sym}
use Rattle.stable_file.proofs.Counting.{counts_one, passes_over}
use Rattle.stable_file.proofs.counts.count_in.Goals as goal
use Rattle.stable_file.proofs.counts.count_in.Goals.{then-is_met, else-is_met}

pub loop-pack-preserved : goal.loop-pack-preserved
loop-pack-preserved c = elim c.if-is_met.branch [
  | then-is_met w ↦ w.total-is ∙ counts_one c.args.range c.args.packs.now c.loop-pack.pack-index c.pack-item.result c.loop-pack-test.true c.pack-item.is c.loop-pack.total w.saturating_add-total.result (sym w.if-is_met.ensures) c.loop-pack.invariant w.saturating_add-total.ensures
  | else-is_met w ↦ w.total-is ∙ passes_over c.args.range c.args.packs.now c.loop-pack.pack-index c.pack-item.result c.loop-pack-test.true c.pack-item.is c.loop-pack.total (sym w.if-is_met.ensures) c.loop-pack.invariant
]

use Rattle.std.proofs.Common.{◌∙◌, sym, arith}
use Rattle.segment_due.proofs.Runs.{first_run_le, one_more_other, one_more_tiny}
use Rattle.segment_due.proofs.info.longest_run.Goals as goal
use Rattle.segment_due.proofs.info.longest_run.Goals.{then-is_tiny, else-is_tiny}

pub loop-i-init : goal.loop-i-init
loop-i-init c = record { within = omega arith; best = omega arith; rest = omega (arith, first_run_le c.args.layer.now) }

pub loop-i-preserved : goal.loop-i-preserved
loop-i-preserved c =
    elim c.if-is_tiny.branch [
      | then-is_tiny w ↦ record {
        within = omega (arith, w.run-is, c.loop-i.invariant.within);
        best = omega (arith, w.run-is, w.longest-is, w.max-longest.ensures);
        rest = c.loop-i.invariant.rest ∙ one_more_tiny c.args.layer.now c.loop-i.i c.loop-i.longest c.loop-i.run c.if-is_tiny.longest c.if-is_tiny.run c.file.result.now c.file.ensures (sym c.is_tiny.ensures ∙ w.if-is_tiny.true) w.run-is (w.longest-is ∙ w.max-longest.ensures);
      }
      | else-is_tiny w ↦ record {
        within = omega (arith, w.run-is);
        best = omega (arith, w.run-is);
        rest = c.loop-i.invariant.rest ∙ one_more_other c.args.layer.now c.loop-i.i c.loop-i.longest c.loop-i.run c.if-is_tiny.longest c.if-is_tiny.run c.file.result.now c.file.ensures (sym c.is_tiny.ensures ∙ w.if-is_tiny.false) c.loop-i.invariant.best w.run-is w.longest-is;
      }
    ]

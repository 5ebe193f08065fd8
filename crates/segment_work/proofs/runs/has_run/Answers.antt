use Rattle.std.proofs.Common.{◌≡◌, ◌∙◌, sym, ◌<◌, length, arith}
use Rattle.segment_work.proofs.RunPlaces.{both_tiny, first_other, no_run_here, run_here, second_other}
use Rattle.segment_work.proofs.runs.has_run.Goals as goal
use Rattle.segment_work.proofs.runs.has_run.Goals.{else-is_tiny_in-via-then-is_tiny_in+else-is_tiny_in-2, else-is_tiny_in-via-else-is_tiny_in}

pub returns-then-is_tiny_in-2 : goal.returns-then-is_tiny_in-2
returns-then-is_tiny_in-2 c =
    let within : c.loop-i.i < length c.args.layer.now = omega (arith, c.loop-i-test.true, c.files-i-end.ensures) in
    sym (c.loop-i.invariant ∙ run_here c.args.layer.now c.loop-i.i within (both_tiny c.args.layer.now c.loop-i.i c.is_tiny_in.result c.is_tiny_in-then-is_tiny_in.result c.is_tiny_in.ensures c.is_tiny_in-then-is_tiny_in.ensures c.if-is_tiny_in.true c.if-is_tiny_in-2.true))

pub loop-i-preserved : goal.loop-i-preserved
loop-i-preserved c =
    let within : c.loop-i.i < length c.args.layer.now = omega (arith, c.loop-i-test.true, c.files-i-end.ensures) in
    elim c.else-is_tiny_in.branch [
      | else-is_tiny_in-via-then-is_tiny_in+else-is_tiny_in-2 w ↦ c.loop-i.invariant ∙ no_run_here c.args.layer.now c.loop-i.i within (second_other c.args.layer.now c.loop-i.i c.is_tiny_in.result w.is_tiny_in-then-is_tiny_in.result c.is_tiny_in.ensures w.is_tiny_in-then-is_tiny_in.ensures w.if-is_tiny_in.true w.if-is_tiny_in-2.false)
      | else-is_tiny_in-via-else-is_tiny_in w ↦ c.loop-i.invariant ∙ no_run_here c.args.layer.now c.loop-i.i within (first_other c.args.layer.now c.loop-i.i c.is_tiny_in.result c.is_tiny_in.ensures w.if-is_tiny_in.false)
    ]

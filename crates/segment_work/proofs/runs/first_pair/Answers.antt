use Rattle.std.proofs.Common.{◌≡◌, ◌∙◌, sym, ◌<◌, ◌&&◌, ℕ, suc, false, length, arith, below_more}
use Rattle.segment_laws.specs.Runs.{tiny_at_place}
use Rattle.segment_work.proofs.RunPlaces.{first_other, no_run_here, second_other}
use Rattle.segment_work.proofs.runs.first_pair.Goals as goal
use Rattle.segment_work.proofs.runs.first_pair.Goals.{else-is_tiny_at-via-then-is_tiny_at+else-is_tiny_at-2, else-is_tiny_at-via-else-is_tiny_at}

pub loop-i-preserved : goal.loop-i-preserved
loop-i-preserved c =
    let within : c.loop-i.i < length c.args.delta.now = omega (arith, c.loop-i-test.true, c.files-i-end.ensures) in
    let no_pair : (tiny_at_place c.args.delta.now c.loop-i.i && tiny_at_place c.args.delta.now (suc c.loop-i.i)) ≡ false =
    elim c.else-is_tiny_at.branch [
      | else-is_tiny_at-via-then-is_tiny_at+else-is_tiny_at-2 w ↦ second_other c.args.delta.now c.loop-i.i c.is_tiny_at.result w.is_tiny_at-then-is_tiny_at.result c.is_tiny_at.ensures w.is_tiny_at-then-is_tiny_at.ensures w.if-is_tiny_at.true w.if-is_tiny_at-2.false
      | else-is_tiny_at-via-else-is_tiny_at w ↦ first_other c.args.delta.now c.loop-i.i c.is_tiny_at.result c.is_tiny_at.ensures w.if-is_tiny_at.false
    ] in
    record {
      before = below_more (λ (k : ℕ). (tiny_at_place c.args.delta.now k && tiny_at_place c.args.delta.now (suc k)) ≡ false) c.loop-i.i c.loop-i.invariant.before no_pair;
      rest = c.loop-i.invariant.rest ∙ no_run_here c.args.delta.now c.loop-i.i within no_pair;
    }

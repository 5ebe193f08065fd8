use Rattle.std.proofs.Common.{◌≡◌, drop}
use Rattle.segment_work.specs.Jobs.{has_run}
use Rattle.segment_work.proofs.runs.has_run.Given as goal

abbrev pub invariant-loop-i : goal.invariant-loop-i
invariant-loop-i l = has_run l.layer ≡ has_run (drop l.i l.layer)

use Rattle.std.proofs.Common.{◌≡◌}
use Rattle.segment_laws.specs.Runs.{run_of}
use Rattle.segment_work.proofs.runs.versions_in.Given as goal

abbrev pub invariant-loop-i : goal.invariant-loop-i
invariant-loop-i l = l.versions ≡ run_of l.delta l.from l.i

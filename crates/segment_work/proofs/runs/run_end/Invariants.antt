use Rattle.std.proofs.Common.{◌≡◌, ◌<◌, ◌≤◌, ℕ, true}
use Rattle.segment_laws.specs.Runs.{tiny_at_place}
use Rattle.segment_work.proofs.runs.run_end.Given as goal

abbrev pub invariant-loop-to : goal.invariant-loop-to
invariant-loop-to l = (k : ℕ) → l.from ≤ k → k < l.to → tiny_at_place l.delta k ≡ true

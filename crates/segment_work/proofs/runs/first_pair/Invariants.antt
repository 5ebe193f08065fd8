use Rattle.std.proofs.Common.{◌≡◌, ◌<◌, ◌&&◌, ℕ, suc, false, drop}
use Rattle.segment_laws.specs.Runs.{tiny_at_place}
use Rattle.segment_work.specs.Jobs.{has_run}
use Rattle.segment_work.proofs.runs.first_pair.Given as goal

abbrev pub invariant-loop-i : goal.invariant-loop-i
invariant-loop-i l = record {
  before : (k : ℕ) → k < l.i → (tiny_at_place l.delta k && tiny_at_place l.delta (suc k)) ≡ false;
  rest : has_run l.delta ≡ has_run (drop l.i l.delta);
}

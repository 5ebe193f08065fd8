use Rattle.std.proofs.Common.{◌≡◌, ℕ, ◌-◌, ◌<◌, ◌≤◌, ◌<ℤ◌, ◌≤ℤ◌, length, slice_get, Some}
use Rattle.delta_index.specs.Chunks.{flat}
use Rattle.delta_index.specs.Indexes.{Entry}
use Rattle.delta_index.proofs.index.first_from.Given as goal

abbrev pub invariant-loop-low : goal.invariant-loop-low
invariant-loop-low l = record {
  order : l.low ≤ l.high;
  within : l.high ≤ length (flat l.chunks);
  before : (k : ℕ) (entry : Entry) → k < l.low → slice_get (flat l.chunks) k ≡ Some entry → entry.0.0 <ℤ l.handle;
  from : (k : ℕ) (entry : Entry) → l.high ≤ k → slice_get (flat l.chunks) k ≡ Some entry → l.handle ≤ℤ entry.0.0;
}

abbrev pub decreases-loop-low : goal.decreases-loop-low
decreases-loop-low l = l.high - l.low

use Rattle.std.proofs.Common.{ℕ, ◌<◌, ◌≤◌, ◌-◌, length, get_or}
use Rattle.row_codec.proofs.numbers.place_of.Given as goal

abbrev pub invariant-loop-low : goal.invariant-loop-low
invariant-loop-low l = record {
  order : l.low ≤ l.high;
  within : l.high ≤ length l.all;
  below : (k : ℕ) → k < l.low → get_or l.all k 0 < l.number;
  above : (k : ℕ) → l.high ≤ k → k < length l.all → l.number < get_or l.all k 0;
}

abbrev pub decreases-loop-low : goal.decreases-loop-low
decreases-loop-low l = l.high - l.low

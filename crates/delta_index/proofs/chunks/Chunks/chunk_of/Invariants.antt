use Rattle.std.proofs.Common.{◌-◌, ◌<◌, ◌≤◌, length, take}
use Rattle.delta_index.specs.Chunks.{flat}
use Rattle.delta_index.proofs.chunks.Chunks.chunk_of.Given as goal

abbrev pub invariant-loop-high : goal.invariant-loop-high
invariant-loop-high l = record {
  order : l.low < l.high;
  within : l.high ≤ length l.self;
  from : length (flat (take l.low l.self)) ≤ l.k;
  to : l.k < length (flat (take l.high l.self));
}

abbrev pub decreases-loop-high : goal.decreases-loop-high
decreases-loop-high l = l.high - l.low

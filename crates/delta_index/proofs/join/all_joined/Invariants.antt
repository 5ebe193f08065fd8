use Rattle.std.proofs.Common.{◌≡◌, ◌≤◌, ◌-◌, length, take}
use Rattle.delta_index.specs.Chunks.{flat}
use Rattle.delta_index.proofs.join.all_joined.Given as goal

abbrev pub invariant-loop-j : goal.invariant-loop-j
invariant-loop-j l = record {
  within : l.j ≤ length l.chunks;
  same : flat l.out ≡ flat (take l.j l.chunks);
}

abbrev pub decreases-loop-j : goal.decreases-loop-j
decreases-loop-j l = length l.chunks - l.j

use Rattle.std.proofs.Common.{◌≤◌}
use Rattle.delta_index.proofs.chunks.Chunks.shared.Given as goal

abbrev pub invariant-loop-chunk : goal.invariant-loop-chunk
invariant-loop-chunk l = l.shared ≤ l.chunk-index

use Rattle.std.proofs.Common.{◌≡◌, ◌++◌, length}
use Rattle.delta_index.specs.Chunks.{flat}
use Rattle.delta_index.proofs.change.with_all.Given as goal

abbrev pub invariant-loop-rest : goal.invariant-loop-rest
invariant-loop-rest l = flat l.out ++ l.rest ≡ flat l.fn.chunks ++ l.fn.entries

abbrev pub decreases-loop-rest : goal.decreases-loop-rest
decreases-loop-rest l = length l.rest

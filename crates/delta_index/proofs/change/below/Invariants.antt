use Rattle.std.proofs.Common.{take}
use Rattle.delta_index.specs.Chunks.{AreBelow}
use Rattle.delta_index.proofs.change.below.Given as goal

abbrev pub invariant-loop-n : goal.invariant-loop-n
invariant-loop-n l = AreBelow l.next.0 (take l.n l.news)

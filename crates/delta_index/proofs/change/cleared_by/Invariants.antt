use Rattle.std.proofs.Common.{◌≡◌, take}
use Rattle.delta_index.specs.Chunks.{flat}
use Rattle.delta_index.specs.Indexes.{cleared}
use Rattle.delta_index.proofs.change.cleared_by.Given as goal

abbrev pub invariant-loop-j : goal.invariant-loop-j
invariant-loop-j l = flat l.out ≡ cleared (flat (take l.j l.old)) l.range

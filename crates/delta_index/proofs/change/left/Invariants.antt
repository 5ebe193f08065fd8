use Rattle.std.proofs.Common.{◌≡◌, take}
use Rattle.delta_index.specs.Indexes.{cleared}
use Rattle.delta_index.proofs.change.left.Given as goal

abbrev pub invariant-loop-entry : goal.invariant-loop-entry
invariant-loop-entry l = l.left.items ≡ cleared (take l.entry-index l.entries) l.range

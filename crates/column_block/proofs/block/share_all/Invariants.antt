use Rattle.std.proofs.Common.{◌≡◌, ◌++◌, map, take}
use Rattle.std.specs.Arc.{arc_value}
use Rattle.column_block.proofs.block.share_all.Given as goal

abbrev pub invariant-loop-one : goal.invariant-loop-one
invariant-loop-one l = map arc_value l.into.items ≡ map arc_value l.initial.into.items ++ map arc_value (take l.one-index l.from)

use Rattle.std.proofs.Common.{◌≡◌, map, take, filter}
use Rattle.std.specs.Arc.{arc_value}
use Rattle.column_block.specs.Handles.{lies_in}
use Rattle.column_block.proofs.block.Block.kept.Given as goal

abbrev pub invariant-loop-one : goal.invariant-loop-one
invariant-loop-one l = map arc_value l.versions.items ≡ filter (lies_in l.low l.high) (take l.one-index l.self)

use Rattle.std.proofs.Common.{◌≡◌, take, false}
use Rattle.std.specs.List.{list_any}
use Rattle.column_block.specs.Handles.{lies_in}
use Rattle.column_block.proofs.block.Block.has_in.Given as goal

abbrev pub invariant-loop-one : goal.invariant-loop-one
invariant-loop-one l = list_any (lies_in l.low l.high) (take l.one-index l.self) ≡ false

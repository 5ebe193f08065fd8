use Rattle.std.proofs.Common.{◌≡◌, drop}
use Rattle.column_block.specs.Cells.{cells_of}
use Rattle.row_decode.proofs.Steps.{with_front}
use Rattle.row_decode.proofs.decode.cells.Given as goal

abbrev pub invariant-loop-column : goal.invariant-loop-column
invariant-loop-column l = with_front l.cells.items (cells_of (drop l.column-index l.columns) l.row) ≡ cells_of l.columns l.row

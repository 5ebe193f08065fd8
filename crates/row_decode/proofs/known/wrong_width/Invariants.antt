use Rattle.std.proofs.Common.{◌≡◌, drop}
use Rattle.std.specs.Result.{result_err}
use Rattle.column_block.specs.Cells.{cells_of}
use Rattle.row_decode.proofs.known.wrong_width.Given as goal

abbrev pub invariant-loop-column : goal.invariant-loop-column
invariant-loop-column l = result_err (cells_of l.columns l.row) ≡ result_err (cells_of (drop l.column-index l.columns) l.row)

-- What a row is read as.
use Rattle.std.specs.Prelude.{◌≡◌, ℕ, List, Ok}
use Rattle.column_block.specs.declared.cell.Cell.{Cell}
use Rattle.column_block.specs.declared.column.Column.{Column}
use Rattle.column_block.specs.Cells.{cells_of}
use Rattle.column_block.specs.Suiting.{CellsFit}

-- The cells of a row suit the schema under which they are read: one for each column, null or of the column's kind.
abbrev pub CellsSuit : Type 0
CellsSuit = (columns : List Column) (row : List (ℕ × List ℕ) × List ℕ) (cells : List Cell) → cells_of columns row ≡ Ok cells → CellsFit columns cells

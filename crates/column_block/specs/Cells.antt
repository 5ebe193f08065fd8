-- The cells that a row has under a schema.
use Rattle.std.specs.Prelude.{ℕ, ℤ, Bool, ◌||◌, ◌==◌, nat_eq, if◌then◌else◌, Option, Some, None, option_map, ok_or, List, [], ◌∷◌, length, Result, Ok}
use Rattle.std.specs.Map.{lookup}
use Rattle.byteorder.specs.Endian.{little_number, twos_complement}
use Rattle.flash_list.specs.Steps.{◌>>=◌}
use Rattle.column_block.specs.declared.column.Column.{Column}
use Rattle.column_block.specs.declared.column.Kind.{Kind}
use Rattle.column_block.specs.declared.column.Kind.TheVariants as kind
use Rattle.column_block.specs.declared.cell.Cell.{Cell}
use Rattle.column_block.specs.declared.cell.Cell.TheVariants as cell

-- a number has 1, 2, 4 or 8 bytes
abbrev pub is_width : ℕ → Bool
is_width n = n == 1 || n == 2 || n == 4 || n == 8

-- the number that the bytes of a value are, little-endian, if their width is one of these
abbrev pub uint_of : List ℕ → Option ℕ
uint_of bytes = if is_width (length bytes) then Some (little_number (length bytes) bytes) else None

-- the same, sign-extended
abbrev pub int_of : List ℕ → Option ℤ
int_of bytes = if is_width (length bytes) then Some (twos_complement (length bytes) (little_number (length bytes) bytes)) else None

-- the cell that the bytes of a value are in a column of a kind, if their width fits
abbrev pub cell_of : Kind → List ℕ → Option Cell
cell_of kind.Int bytes = option_map cell.Int (int_of bytes)
cell_of kind.Uint bytes = option_map cell.Uint (uint_of bytes)
cell_of kind.Bytes bytes = Some (cell.Bytes bytes)

-- a column's cell: null where the row has no value in it, and the column's id where the width of the value doesn't fit
abbrev pub cell_at : Column → Option (List ℕ) → Result Cell ℕ
cell_at column None = Ok cell.Null
cell_at column (Some bytes) = ok_or (cell_of column.kind bytes) column.id

-- The cells of a row, in the schema's order, or the id of the first column whose value has a wrong width. A row is its values by their ids, and the ids that are null.
abbrev pub cells_of : List Column → List (ℕ × List ℕ) × List ℕ → Result (List Cell) ℕ
cells_of [] row = Ok []
cells_of (column ∷ columns) row = do
  first ← cell_at column (lookup (nat_eq column.id) row.0)
  others ← cells_of columns row
  Ok (first ∷ others)

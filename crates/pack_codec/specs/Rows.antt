-- Rows that are kept as lists: one list each of handles, timestamps and marks, and one a column.
use Rattle.std.specs.Prelude.{ℕ, zero, suc, ◌+◌, ℤ, pos, Bool, true, false, not, ◌||◌, ◌&&◌, ◌==◌, nat_le, List, [], ◌∷◌, map, slice_index_or, if◌then◌else◌, Option, Some, None, unwrap_or}
use Rattle.std.specs.Option.{is_some}
use Rattle.std.specs.List.{list_all}
use Rattle.column_block.specs.declared.cell.Cell.{Cell}
use Rattle.column_block.specs.declared.cell.Cell.TheVariants as cell
use Rattle.column_block.specs.declared.cell.Version.{Version}
use Rattle.column_codec.specs.declared.list.ColumnList.{ColumnList}
use Rattle.column_codec.specs.declared.list.ColumnList.TheVariants as list
use Rattle.pack_codec.specs.declared.heads.Heads.{Heads}

-- ---- which lists are allowed

-- handles: signed numbers, none of them null
abbrev pub handles_in : Option ColumnList → Option (List (Option ℤ))
handles_in (Some (list.Int values)) = if list_all is_some values then Some values else None
handles_in _ = None

-- timestamps: unsigned numbers, none of them null
abbrev pub stamps_in : Option ColumnList → Option (List (Option ℕ))
stamps_in (Some (list.Uint values)) = if list_all is_some values then Some values else None
stamps_in _ = None

abbrev pub is_mark : Option ℕ → Bool
is_mark None = false
is_mark (Some n) = nat_le n 1

-- marks: each is 0, or 1 where the row is gone
abbrev pub marks_in : Option ColumnList → Option (List (Option ℕ))
marks_in (Some (list.Uint values)) = if list_all is_mark values then Some values else None
marks_in _ = None

-- ---- rows

abbrev pub is_gone : List (Option ℕ) → ℕ → Bool
is_gone marks i = unwrap_or (slice_index_or marks i None) 0 == 1

abbrev pub int_cell : Option ℤ → Cell
int_cell None = cell.Null
int_cell (Some n) = cell.Int n

abbrev pub uint_cell : Option ℕ → Cell
uint_cell None = cell.Null
uint_cell (Some n) = cell.Uint n

abbrev pub text_cell : Option (List ℕ) → Cell
text_cell None = cell.Null
text_cell (Some bytes) = cell.Bytes bytes

-- row i's cell in a column
abbrev pub cell_at : ColumnList → ℕ → Cell
cell_at (list.Int values) i = int_cell (slice_index_or values i None)
cell_at (list.Uint values) i = uint_cell (slice_index_or values i None)
cell_at (list.Bytes values) i = text_cell (slice_index_or values i None)

abbrev pub is_null : Cell → Bool
is_null cell.Null = true
is_null _ = false

-- whether a column may have what it has in row i: null where the row is gone
abbrev pub may_have : List (Option ℕ) → ColumnList → ℕ → Bool
may_have marks l i = not (is_gone marks i) || is_null (cell_at l i)

-- so many rows from row i on: where one is gone the column has no value
abbrev pub null_from : List (Option ℕ) → ColumnList → ℕ → ℕ → Bool
null_from marks l i zero = true
null_from marks l i (suc count) = may_have marks l i && null_from marks l (i + 1) count

-- row i. One that is gone has no cells.
abbrev pub version_at : Heads → List ColumnList → ℕ → Version
version_at heads lists i = record {
  handle = unwrap_or (slice_index_or heads.handles i None) (pos 0);
  ts = unwrap_or (slice_index_or heads.stamps i None) 0;
  gone = is_gone heads.marks i;
  cells = if is_gone heads.marks i then [] else map (λ l. cell_at l i) lists;
}

-- so many rows from row i on
abbrev pub versions_from : Heads → List ColumnList → ℕ → ℕ → List Version
versions_from heads lists i zero = []
versions_from heads lists i (suc count) = version_at heads lists i ∷ versions_from heads lists (i + 1) count

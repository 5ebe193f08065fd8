-- Rows that have no columns but the schema's.
use Rattle.std.specs.Prelude.{ℕ, Bool, not, ◌==◌, List, Option, find}
use Rattle.std.specs.List.{list_any}
use Rattle.column_block.specs.declared.column.Column.{Column}
use Rattle.row_codec.specs.Rows.{Row, ids_of}

abbrev pub is_known : List Column → ℕ → Bool
is_known columns id = list_any (λ (column : Column). column.id == id) columns

-- the first id of the row that is no column of the schema, of those with a value and then of the null ones
abbrev pub unknown_column : List Column → Row → Option ℕ
unknown_column columns row = find (λ id. not (is_known columns id)) (ids_of row)

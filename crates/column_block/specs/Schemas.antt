-- Which columns make a schema.
use Rattle.std.specs.Prelude.{◌≡◌, ℕ, ◌-◌, ◌^◌, ◌≤◌, min, List, length, map, nat_lt, if◌then◌else◌, Some, None, Result, Ok, Err}
use Rattle.column_block.specs.declared.column.Column.{Column}
use Rattle.column_block.specs.declared.schema.SchemaError.{SchemaError}
use Rattle.column_block.specs.Rising.{first_fall}
use Rattle.column_block.specs.declared.schema.SchemaError.TheVariants.{Order, TooMany}

abbrev pub ids : List Column → List ℕ
ids columns = map (λ (column : Column). column.id) columns

-- The ids rise, and there are at most 64 columns.
pub record IsSchema (columns : List Column) : Type 0 where
  pub rises : first_fall (ids columns) ≡ None
  pub few : length columns ≤ 64

-- the columns, or why they make no schema
abbrev pub schema_of : List Column → Result (List Column) SchemaError
schema_of columns = elim (first_fall (ids columns)) [
  | Some at ↦ Err (Order (min at (2 ^ 32 - 1)))
  | None ↦ if nat_lt 64 (length columns) then Err (TooMany (length columns)) else Ok columns
]

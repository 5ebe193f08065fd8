-- The columns that a log's header names.
use Rattle.std.specs.Prelude.{ℕ, List, map, ◌==◌, if◌then◌else◌}
use Rattle.column_block.specs.declared.column.Column.{Column}
use Rattle.column_block.specs.declared.column.Kind.{Kind}
use Rattle.column_block.specs.declared.column.Kind.TheVariants as kind
use Rattle.log_codec.specs.declared.header.ColumnSpec.{ColumnSpec}

abbrev pub kind_of : ℕ → Kind
kind_of n = if n == 1 then kind.Int else if n == 2 then kind.Uint else kind.Bytes

abbrev pub columns_of : List ColumnSpec → List Column
columns_of specs = map (λ (spec : ColumnSpec). record { id = spec.id; kind = kind_of spec.kind }) specs

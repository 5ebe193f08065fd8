-- Writing and reading agree.
use Rattle.std.specs.Prelude.{◌≡◌, ℕ, ℤ, List, Ok, FitsSigned}
use Rattle.std.specs.List.{All, flat_map}
use Rattle.std.specs.Int.{w64}
use Rattle.manifest_form.specs.declared.state.Edit.{Edit}
use Rattle.manifest_form.specs.Edits.{edits_of}
use Rattle.manifest_form.specs.Spelling as spelling
use Rattle.manifest_form.specs.Spelling.{EditFits, ColumnFits}
use Rattle.manifest_form.specs.Takes.{IsHeader}
use Rattle.column_block.specs.declared.column.Column.{Column}
use Rattle.column_block.specs.Schemas.{IsSchema}

-- A record that is written is read again as its edits, wherever it ends.
abbrev pub EditsAreReadAgain : Type 0
EditsAreReadAgain = (end : ℕ) (edits : List Edit) → All EditFits edits → edits_of end (flat_map spelling.edit edits) ≡ Ok edits

-- A header that is written is read again, whatever stands behind it.
abbrev pub HeadersAreReadAgain : Type 0
HeadersAreReadAgain = (table : ℤ) (columns : List Column) → FitsSigned w64 table → IsSchema columns → All ColumnFits columns → IsHeader (spelling.header table columns) (record { table = table; columns = columns })

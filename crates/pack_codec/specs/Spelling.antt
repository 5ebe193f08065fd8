-- How a pack is written.
use Rattle.std.specs.Prelude.{◌≡◌, ℕ, ◌+◌, ◌<◌, ◌^◌, ℤ, true, false, List, [], ◌∷◌, ◌++◌, length, map, slice_index_or, if◌then◌else◌, Option, Some, None, IfSome}
use Rattle.std.specs.Int.{w16, w64, to_be_bytes}
use Rattle.std.specs.List.{AllByRecursion, flat_map}
use Rattle.column_block.specs.declared.column.Column.{Column}
use Rattle.column_block.specs.declared.column.Kind.{Kind}
use Rattle.column_block.specs.declared.column.Kind.TheVariants as column_kind
use Rattle.column_block.specs.declared.cell.Cell.{Cell}
use Rattle.column_block.specs.declared.cell.Cell.TheVariants as cell
use Rattle.column_block.specs.declared.cell.Version.{Version}
use Rattle.column_codec.specs.declared.list.ListKind.{ListKind}
use Rattle.column_codec.specs.declared.list.ListKind.TheVariants as kind
use Rattle.column_codec.specs.declared.list.ColumnList.{ColumnList}
use Rattle.column_codec.specs.declared.list.ColumnList.TheVariants as list
use Rattle.column_codec.specs.Spelling.{spelled}
use Rattle.column_codec.specs.Laws.{Fits}
use Rattle.pack_codec.specs.declared.field.Field.{Field}
use Rattle.pack_codec.specs.declared.field.Field.TheVariants as field
use Rattle.pack_codec.specs.Reading.{list_kind}
pub use Rattle.column_block.specs.Suiting.{IsOfKind, CellsFit, Suits}

-- ---- the lists of some versions

-- a version's cell in column k, null where it has none
abbrev pub cell_of : ℕ → Version → Cell
cell_of k version = slice_index_or version.cells k cell.Null

-- a cell as a value of a column of each kind, null where it is of another
abbrev pub int_in : Cell → Option ℤ
int_in (cell.Int n) = Some n
int_in _ = None

abbrev pub uint_in : Cell → Option ℕ
uint_in (cell.Uint n) = Some n
uint_in _ = None

abbrev pub text_in : Cell → Option (List ℕ)
text_in (cell.Bytes bytes) = Some bytes
text_in _ = None

abbrev pub mark_of : Version → ℕ
mark_of version = if version.gone then 1 else 0

-- a field of a version as a value of each kind
abbrev pub int_of : Field → Version → Option ℤ
int_of field.Handle version = Some version.handle
int_of (field.Cell k) version = int_in (cell_of k version)
int_of _ version = None

abbrev pub uint_of : Field → Version → Option ℕ
uint_of field.Stamp version = Some version.ts
uint_of field.Mark version = Some (mark_of version)
uint_of (field.Cell k) version = uint_in (cell_of k version)
uint_of field.Handle version = None

abbrev pub text_of : Field → Version → Option (List ℕ)
text_of (field.Cell k) version = text_in (cell_of k version)
text_of _ version = None

-- the list of a field
abbrev pub list_of : ListKind → Field → List Version → ColumnList
list_of kind.Int field versions = list.Int (map (int_of field) versions)
list_of kind.Uint field versions = list.Uint (map (uint_of field) versions)
list_of kind.Bytes field versions = list.Bytes (map (text_of field) versions)

-- the lists of these columns, of which the first is column k
abbrev pub columns_of : List Column → ℕ → List Version → List ColumnList
columns_of [] k versions = []
columns_of (column ∷ columns) k versions = list_of (list_kind column.kind) (field.Cell k) versions ∷ columns_of columns (k + 1) versions

-- ---- bytes

-- a list behind its length
unfoldable pub sized : ColumnList → List ℕ
sized l = to_be_bytes w64 (length (spelled l)) ++ spelled l

-- the number of versions and that of columns
unfoldable pub counts : ℕ → ℕ → List ℕ
counts versions columns = to_be_bytes w64 versions ++ to_be_bytes w16 columns

-- the lists of handles, timestamps and marks
unfoldable pub heads : List Version → List ℕ
heads versions = sized (list_of kind.Int field.Handle versions) ++ (sized (list_of kind.Uint field.Stamp versions) ++ sized (list_of kind.Uint field.Mark versions))

-- The pack of some versions: their number, the number of columns, and the lists.
unfoldable pub pack : List Column → List Version → List ℕ
pack columns versions = counts (length versions) (length columns) ++ (heads versions ++ flat_map sized (columns_of columns 0 versions))

-- ---- what can be written

abbrev pub UintFits : Option ℕ → Type 0
UintFits value = IfSome value (λ n. n < 2 ^ 64)

abbrev pub TextFits : Option (List ℕ) → Type 0
TextFits value = IfSome value (λ text. length text < 2 ^ 64)

-- a list of numbers and lengths of 64 bits
pub record ListFits (l : ColumnList) : Type 0 where
  pub values : Fits l
  pub bytes : length (spelled l) < 2 ^ 64

pub record HeadsFit (versions : List Version) : Type 0 where
  pub handles : ListFits (list_of kind.Int field.Handle versions)
  pub stamps : ListFits (list_of kind.Uint field.Stamp versions)
  pub marks : ListFits (list_of kind.Uint field.Mark versions)

-- The numbers and lengths of these versions have 64 bits, as those of a program's versions have.
pub record PackFits (schema : List Column) (versions : List Version) : Type 0 where
  pub count : length versions < 2 ^ 64
  pub heads : HeadsFit versions
  pub columns : AllByRecursion ListFits (columns_of schema 0 versions)

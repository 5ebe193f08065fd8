-- Which versions suit a schema.
use Rattle.std.specs.Prelude.{◌≡◌, Bool, true, false, List, [], ◌∷◌}
use Rattle.column_block.specs.declared.column.Column.{Column}
use Rattle.column_block.specs.declared.column.Kind.{Kind}
use Rattle.column_block.specs.declared.column.Kind.TheVariants as kind
use Rattle.column_block.specs.declared.cell.Cell.{Cell}
use Rattle.column_block.specs.declared.cell.Cell.TheVariants as cell
use Rattle.column_block.specs.declared.cell.Version.{Version}

-- a cell is null or of the column's kind
abbrev pub IsOfKind : Kind → Cell → Type 0
IsOfKind k cell.Null = Unit {0}
IsOfKind k (cell.Int n) = k ≡ kind.Int
IsOfKind k (cell.Uint n) = k ≡ kind.Uint
IsOfKind k (cell.Bytes bytes) = k ≡ kind.Bytes

-- one cell for each column
abbrev pub CellsFit : List Column → List Cell → Type 0
CellsFit [] [] = Unit {0}
CellsFit (column ∷ columns) (c ∷ cells) = IsOfKind column.kind c × CellsFit columns cells
CellsFit _ _ = ⊥

-- A version suits a schema where it has one cell for each column, or where it is gone and has none.
abbrev pub Suits : List Column → Version → Type 0
Suits columns version = elim version.gone [ true ↦ version.cells ≡ [] | false ↦ CellsFit columns version.cells ]

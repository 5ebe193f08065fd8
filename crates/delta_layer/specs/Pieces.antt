-- The stable part of a piece that a build made.
use Rattle.std.specs.Prelude.{◌≡◌, ℕ, List, [], ◌∷◌}
use Rattle.column_block.specs.declared.column.Column.{Column}
use Rattle.column_block.specs.declared.cell.Version.{Version}
use Rattle.stable_file.specs.Building.{file, FileFits}

-- The bytes are the stable file of the versions, in packs of so many rows, and its numbers fit; with no version there are no bytes.
abbrev pub IsStablePiece : List Column → ℕ → List Version → List ℕ → Type 0
IsStablePiece columns rows [] bytes = bytes ≡ []
IsStablePiece columns rows (v ∷ vs) bytes = (bytes ≡ file columns rows (v ∷ vs)) × FileFits columns rows (v ∷ vs)

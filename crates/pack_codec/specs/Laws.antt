-- Writing and reading agree.
use Rattle.std.specs.Prelude.{◌≡◌, ℕ, ◌<◌, ◌^◌, List, length, Ok}
use Rattle.std.specs.List.{AllByRecursion}
use Rattle.column_block.specs.declared.column.Column.{Column}
use Rattle.column_block.specs.declared.cell.Version.{Version}
use Rattle.column_codec.specs.Laws.{AreBytes}
use Rattle.pack_codec.specs.Reading.{pack_at}
use Rattle.pack_codec.specs.Spelling.{pack, PackFits}
use Rattle.column_block.specs.Suiting.{Suits}

-- Versions that suit a schema and are written are read again as the same versions, wherever the pack stands.
abbrev pub PacksAreReadAgain : Type 0
PacksAreReadAgain = (columns : List Column) (versions : List Version) (end : ℕ) → length columns < 2 ^ 16 → AllByRecursion (Suits columns) versions → PackFits columns versions
    → pack_at end columns (pack columns versions) ≡ Ok versions

-- What is read suits the schema that it is read with.
abbrev pub PacksSuit : Type 0
PacksSuit = (columns : List Column) (end : ℕ) (bytes : List ℕ) (versions : List Version) → pack_at end columns bytes ≡ Ok versions → AllByRecursion (Suits columns) versions

-- Bytes that are read as versions are the pack of these versions, so no other bytes are read as them, wherever they stand.
abbrev pub PacksHaveOneSpelling : Type 0
PacksHaveOneSpelling = (columns : List Column) (end : ℕ) (bytes : List ℕ) (versions : List Version) → AreBytes bytes → pack_at end columns bytes ≡ Ok versions → bytes ≡ pack columns versions

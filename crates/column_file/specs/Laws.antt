-- Writing and reading agree.
use Rattle.std.specs.Prelude.{◌≡◌, ℕ, ◌<◌, ◌^◌, List, length, Ok}
use Rattle.std.specs.List.{AllByRecursion}
use Rattle.column_block.specs.declared.column.Column.{Column}
use Rattle.column_block.specs.declared.cell.Version.{Version}
use Rattle.column_codec.specs.Laws.{AreBytes}
use Rattle.pack_codec.specs.Spelling.{PackFits}
use Rattle.column_block.specs.Suiting.{Suits}
use Rattle.column_file.specs.Tiny.{tiny_at, tiny}

-- Versions that suit a schema and are written are read again as the same versions.
abbrev pub TinyFilesAreReadAgain : Type 0
TinyFilesAreReadAgain = (columns : List Column) (versions : List Version) → length columns < 2 ^ 16 → AllByRecursion (Suits columns) versions → PackFits columns versions → tiny_at columns (tiny columns versions) ≡ Ok versions

-- What is read suits the schema that it is read with.
abbrev pub TinyFilesSuit : Type 0
TinyFilesSuit = (columns : List Column) (bytes : List ℕ) (versions : List Version) → tiny_at columns bytes ≡ Ok versions → AllByRecursion (Suits columns) versions

-- Bytes that are read as versions are their tiny file, so no other bytes are read as them.
abbrev pub TinyFilesHaveOneSpelling : Type 0
TinyFilesHaveOneSpelling = (columns : List Column) (bytes : List ℕ) (versions : List Version) → AreBytes bytes → tiny_at columns bytes ≡ Ok versions → bytes ≡ tiny columns versions

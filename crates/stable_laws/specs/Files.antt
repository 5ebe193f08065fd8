-- Whole stable files: what is read of one, and its one spelling.
use Rattle.std.specs.Prelude.{◌≡◌, ℕ, List, [], ◌∷◌, length, drop, Ok}
use Rattle.column_block.specs.declared.column.Column.{Column}
use Rattle.column_block.specs.declared.cell.Version.{Version}
use Rattle.column_codec.specs.Laws.{AreBytes}
use Rattle.stable_file.specs.declared.pack.Pack.{Pack}
use Rattle.stable_file.specs.Building.{file_of}
use Rattle.stable_file.specs.Footer.{tail_at}
use Rattle.stable_file.specs.Ranges.{told_in}

-- each of these packs is read as the versions at its place in the list
abbrev pub AreReadAs : List Column → List ℕ → List Pack → List (List Version) → Type 0
AreReadAs columns content [] [] = Unit {0}
AreReadAs columns content (pack ∷ packs) (part ∷ parts) = (told_in pack columns content ≡ Ok part) × AreReadAs columns content packs parts
AreReadAs columns content _ _ = ⊥

-- A file with this content is read as a stable file: its footer tells these packs, and they have these versions.
pub record IsReadAs (columns : List Column) (content : List ℕ) (packs : List Pack) (parts : List (List Version)) : Type 0 where
  pub bytes : AreBytes content
  pub footer : tail_at (length content) columns content ≡ Ok packs
  pub read : AreReadAs columns content packs parts

-- all but the first four bytes, which no call reads
abbrev pub behind_magic : List ℕ → List ℕ
behind_magic content = drop 4 content

-- What is read as a stable file has the bytes that the versions in these packs are written as: no byte stands between packs, before the footer or behind it.
abbrev pub FilesHaveOneSpelling : Type 0
FilesHaveOneSpelling = (columns : List Column) (content : List ℕ) (packs : List Pack) (parts : List (List Version)) → IsReadAs columns content packs parts → behind_magic content ≡ behind_magic (file_of columns parts)

-- Two files that are read as the same versions in packs are the same behind their first four bytes.
abbrev pub EqualReadsAreOfEqualFiles : Type 0
EqualReadsAreOfEqualFiles = (columns : List Column) (one two : List ℕ) (packs others : List Pack) (parts : List (List Version)) → IsReadAs columns one packs parts → IsReadAs columns two others parts → behind_magic one ≡ behind_magic two

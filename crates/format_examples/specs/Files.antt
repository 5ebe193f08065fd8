-- Packs, tiny files and stable files, and their bytes.
use Rattle.std.specs.Prelude.{◌≡◌, ℕ, pos, true, false, List, [], ◌∷◌, ◌++◌}
use Rattle.column_block.specs.declared.column.Column.{Column}
use Rattle.column_block.specs.declared.column.Kind.TheVariants as kind
use Rattle.column_block.specs.declared.cell.Cell.TheVariants as cell
use Rattle.column_block.specs.declared.cell.Version.{Version}
use Rattle.pack_codec.specs.Spelling.{pack}
use Rattle.column_file.specs.Tiny.{tiny}
use Rattle.stable_file.specs.Building as stable

-- ---- a pack and a tiny file

-- a column of signed numbers and one of bytes
abbrev pub two_columns : List Column
two_columns = record { id = 1; kind = kind.Int } ∷ record { id = 2; kind = kind.Bytes } ∷ []

-- handle 5 with 5 and `ab`, and handle 6, which is gone, both at 10
abbrev pub two_versions : List Version
two_versions =
    record { handle = pos 5; ts = 10; gone = false; cells = cell.Int (pos 5) ∷ cell.Bytes (0x61 ∷ 0x62 ∷ []) ∷ [] } ∷ record { handle = pos 6; ts = 10; gone = true; cells = [] } ∷ []

-- counts, handles, timestamps, marks, numbers, texts: each list behind its length
abbrev pub pack_bytes : List ℕ
pack_bytes =
    0 ∷ 0 ∷ 0 ∷ 0 ∷ 0 ∷ 0 ∷ 0 ∷ 2 ∷ 0 ∷ 2 ∷ 0 ∷ 0 ∷ 0 ∷ 0 ∷ 0 ∷ 0 ∷ 0 ∷ 4 ∷ 0 ∷ 0 ∷
    0x0A ∷ 2 ∷ 0 ∷ 0 ∷ 0 ∷ 0 ∷ 0 ∷ 0 ∷ 0 ∷ 3 ∷ 1 ∷ 0 ∷ 0x14 ∷ 0 ∷ 0 ∷ 0 ∷ 0 ∷ 0 ∷ 0 ∷ 0 ∷
    4 ∷ 0 ∷ 0 ∷ 0 ∷ 2 ∷ 0 ∷ 0 ∷ 0 ∷ 0 ∷ 0 ∷ 0 ∷ 0 ∷ 4 ∷ 0 ∷ 1 ∷ 2 ∷ 0x0A ∷ 0 ∷ 0 ∷ 0 ∷
    0 ∷ 0 ∷ 0 ∷ 0 ∷ 6 ∷ 0 ∷ 1 ∷ 2 ∷ 2 ∷ 0x61 ∷ 0x62 ∷ []

-- ---- a stable file

abbrev pub one_column : List Column
one_column = record { id = 1; kind = kind.Int } ∷ []

-- at 10, with its handle as its cell
abbrev pub row : ℕ → Version
row handle = record { handle = pos handle; ts = 10; gone = false; cells = cell.Int (pos handle) ∷ [] }

abbrev pub three_versions : List Version
three_versions = row 0 ∷ row 1 ∷ row 2 ∷ []

-- handles 0 and 1 at 10
abbrev pub first_pack : List ℕ
first_pack =
    0 ∷ 0 ∷ 0 ∷ 0 ∷ 0 ∷ 0 ∷ 0 ∷ 2 ∷ 0 ∷ 1 ∷ 0 ∷ 0 ∷ 0 ∷ 0 ∷ 0 ∷ 0 ∷ 0 ∷ 4 ∷ 0 ∷ 0 ∷
    0 ∷ 2 ∷ 0 ∷ 0 ∷ 0 ∷ 0 ∷ 0 ∷ 0 ∷ 0 ∷ 3 ∷ 1 ∷ 0 ∷ 0x14 ∷ 0 ∷ 0 ∷ 0 ∷ 0 ∷ 0 ∷ 0 ∷ 0 ∷
    3 ∷ 1 ∷ 0 ∷ 0 ∷ 0 ∷ 0 ∷ 0 ∷ 0 ∷ 0 ∷ 0 ∷ 0 ∷ 4 ∷ 0 ∷ 0 ∷ 0 ∷ 2 ∷ []

-- handle 2
abbrev pub second_pack : List ℕ
second_pack =
    0 ∷ 0 ∷ 0 ∷ 0 ∷ 0 ∷ 0 ∷ 0 ∷ 1 ∷ 0 ∷ 1 ∷ 0 ∷ 0 ∷ 0 ∷ 0 ∷ 0 ∷ 0 ∷ 0 ∷ 3 ∷ 0 ∷ 0 ∷
    4 ∷ 0 ∷ 0 ∷ 0 ∷ 0 ∷ 0 ∷ 0 ∷ 0 ∷ 3 ∷ 0 ∷ 0 ∷ 0x14 ∷ 0 ∷ 0 ∷ 0 ∷ 0 ∷ 0 ∷ 0 ∷ 0 ∷ 3 ∷
    0 ∷ 0 ∷ 0 ∷ 0 ∷ 0 ∷ 0 ∷ 0 ∷ 0 ∷ 0 ∷ 0 ∷ 3 ∷ 0 ∷ 0 ∷ 4 ∷ []

-- the entries of the two packs, and their number
abbrev pub footer_bytes : List ℕ
footer_bytes =
    0 ∷ 0 ∷ 0 ∷ 0 ∷ 0 ∷ 0 ∷ 0 ∷ 4 ∷ 0 ∷ 0 ∷ 0 ∷ 0 ∷ 0 ∷ 0 ∷ 0 ∷ 0x38 ∷ 0 ∷ 0 ∷ 0 ∷ 2 ∷
    0 ∷ 0 ∷ 0 ∷ 0 ∷ 0 ∷ 0 ∷ 0 ∷ 0 ∷ 0 ∷ 0 ∷ 0 ∷ 0 ∷ 0 ∷ 0 ∷ 0 ∷ 1 ∷ 1 ∷ 0 ∷ 0 ∷ 0 ∷
    0 ∷ 0 ∷ 0 ∷ 0 ∷ 0 ∷ 0 ∷ 0 ∷ 0 ∷ 0 ∷ 0 ∷ 0 ∷ 0 ∷ 1 ∷ 0 ∷ 0 ∷ 0 ∷ 0 ∷ 0 ∷ 0 ∷ 0 ∷
    0x3C ∷ 0 ∷ 0 ∷ 0 ∷ 0 ∷ 0 ∷ 0 ∷ 0 ∷ 0x36 ∷ 0 ∷ 0 ∷ 0 ∷ 1 ∷ 0 ∷ 0 ∷ 0 ∷ 0 ∷ 0 ∷ 0 ∷ 0 ∷
    2 ∷ 0 ∷ 0 ∷ 0 ∷ 0 ∷ 0 ∷ 0 ∷ 0 ∷ 2 ∷ 1 ∷ 0 ∷ 0 ∷ 0 ∷ 0 ∷ 0 ∷ 0 ∷ 0 ∷ 2 ∷ 0 ∷ 0 ∷
    0 ∷ 0 ∷ 0 ∷ 0 ∷ 0 ∷ 2 ∷ 0 ∷ 0 ∷ 0 ∷ 0 ∷ 0 ∷ 0 ∷ 0 ∷ 2 ∷ []

-- `FLST`, the packs, the footer, its length of 114 bytes, `FLSE`
abbrev pub stable_bytes : List ℕ
stable_bytes = 0x46 ∷ 0x4C ∷ 0x53 ∷ 0x54 ∷ (first_pack ++ second_pack ++ footer_bytes ++ 0 ∷ 0 ∷ 0 ∷ 0 ∷ 0 ∷ 0 ∷ 0 ∷ 0x72 ∷ 0x46 ∷ 0x4C ∷ 0x53 ∷ 0x45 ∷ [])

pub record FilesInBytes : Type 0 where
  pub packed : pack two_columns two_versions ≡ pack_bytes
  pub tiny_file : tiny two_columns two_versions ≡ 0x46 ∷ 0x4C ∷ 0x54 ∷ 0x4E ∷ pack_bytes
  pub stable_file : stable.file one_column 2 three_versions ≡ stable_bytes

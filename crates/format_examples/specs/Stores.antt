-- A root, a manifest's header and its edits, and their bytes.
use Rattle.std.specs.Prelude.{◌≡◌, ℕ, pos, negsuc, List, [], ◌∷◌, Some, None}
use Rattle.column_block.specs.declared.column.Column.{Column}
use Rattle.column_block.specs.declared.column.Kind.TheVariants as kind
use Rattle.manifest_form.specs.declared.state.StoredFile.TheVariants.{Tiny, DeleteRange}
use Rattle.manifest_form.specs.declared.state.StoredSegment.{StoredSegment}
use Rattle.manifest_form.specs.declared.state.Edit.TheVariants.{Next, Segment, Drop, High, SafePoint, Regions, Count}
use Rattle.manifest_form.specs.Spelling.{edit, header}
use Rattle.manifest.specs.Gated.{with_record}

abbrev pub columns : List Column
columns = record { id = 1; kind = kind.Int } ∷ record { id = 2; kind = kind.Bytes } ∷ []

-- handles from -2 up to 7; the stable file 5; above it the tiny file 6, and a delete-range of the handles from 0 on
abbrev pub segment : StoredSegment
segment = record { id = 1; range = record { low = negsuc 1; high = Some (pos 7) }; stable = Some 5; delta = Tiny 6 ∷ DeleteRange (record { low = pos 0; high = None }) ∷ [] }

-- the bytes 0, 1, 2, .. 31
abbrev pub chain : List ℕ
chain = 0 ∷ 1 ∷ 2 ∷ 3 ∷ 4 ∷ 5 ∷ 6 ∷ 7 ∷ 8 ∷ 9 ∷ 10 ∷ 11 ∷ 12 ∷ 13 ∷ 14 ∷ 15 ∷ 16 ∷ 17 ∷ 18 ∷ 19 ∷ 20 ∷ 21 ∷ 22 ∷ 23 ∷ 24 ∷ 25 ∷ 26 ∷ 27 ∷ 28 ∷ 29 ∷ 30 ∷ 31 ∷ []

-- an open gate, the length 4, and the number 1
abbrev pub root_bytes : List ℕ
root_bytes =
    1 ∷ 0 ∷ 0 ∷ 0 ∷ 0 ∷ 0 ∷ 0 ∷ 0 ∷ 4 ∷ 0 ∷ 0 ∷ 0 ∷ 1 ∷ []

-- `FLMF`, version 1, table 9, a column of numbers and one of bytes
abbrev pub header_bytes : List ℕ
header_bytes =
    0x46 ∷ 0x4C ∷ 0x4D ∷ 0x46 ∷ 0 ∷ 1 ∷ 0 ∷ 0 ∷ 0 ∷ 0 ∷ 0 ∷ 0 ∷ 0 ∷ 9 ∷ 0 ∷ 2 ∷ 0 ∷ 0 ∷ 0 ∷ 1 ∷
    1 ∷ 0 ∷ 0 ∷ 0 ∷ 2 ∷ 3 ∷ []

abbrev pub next_bytes : List ℕ
next_bytes =
    1 ∷ 0 ∷ 0 ∷ 0 ∷ 3 ∷ []

abbrev pub segment_bytes : List ℕ
segment_bytes =
    2 ∷ 0 ∷ 0 ∷ 0 ∷ 1 ∷ 0xFF ∷ 0xFF ∷ 0xFF ∷ 0xFF ∷ 0xFF ∷ 0xFF ∷ 0xFF ∷ 0xFE ∷ 1 ∷ 0 ∷ 0 ∷ 0 ∷ 0 ∷ 0 ∷ 0 ∷
    0 ∷ 7 ∷ 1 ∷ 0 ∷ 0 ∷ 0 ∷ 5 ∷ 0 ∷ 0 ∷ 0 ∷ 0 ∷ 0 ∷ 0 ∷ 0 ∷ 2 ∷ 1 ∷ 0 ∷ 0 ∷ 0 ∷ 6 ∷
    2 ∷ 0 ∷ 0 ∷ 0 ∷ 0 ∷ 0 ∷ 0 ∷ 0 ∷ 0 ∷ 0 ∷ []

abbrev pub drop_bytes : List ℕ
drop_bytes =
    3 ∷ 0 ∷ 0 ∷ 0 ∷ 1 ∷ []

abbrev pub high_bytes : List ℕ
high_bytes =
    4 ∷ 0 ∷ 0 ∷ 0 ∷ 0 ∷ 0 ∷ 0 ∷ 0 ∷ 5 ∷ 0 ∷ 1 ∷ 2 ∷ 3 ∷ 4 ∷ 5 ∷ 6 ∷ 7 ∷ 8 ∷ 9 ∷ 0x0A ∷
    0x0B ∷ 0x0C ∷ 0x0D ∷ 0x0E ∷ 0x0F ∷ 0x10 ∷ 0x11 ∷ 0x12 ∷ 0x13 ∷ 0x14 ∷ 0x15 ∷ 0x16 ∷ 0x17 ∷ 0x18 ∷ 0x19 ∷ 0x1A ∷ 0x1B ∷ 0x1C ∷ 0x1D ∷ 0x1E ∷
    0x1F ∷ []

abbrev pub safe_point_bytes : List ℕ
safe_point_bytes =
    5 ∷ 0 ∷ 0 ∷ 0 ∷ 0 ∷ 0 ∷ 0 ∷ 1 ∷ 2 ∷ []

abbrev pub regions_bytes : List ℕ
regions_bytes =
    6 ∷ 0 ∷ 0 ∷ 0 ∷ 4 ∷ []

abbrev pub count_bytes : List ℕ
count_bytes =
    7 ∷ 0 ∷ 0 ∷ 0 ∷ 0 ∷ 0 ∷ 0 ∷ 1 ∷ 2 ∷ []

pub record StoresInBytes : Type 0 where
  pub root : with_record [] (0 ∷ 0 ∷ 0 ∷ 1 ∷ []) ≡ root_bytes
  pub front : header (pos 9) columns ≡ header_bytes
  pub next : edit (Next 3) ≡ next_bytes
  pub put : edit (Segment segment) ≡ segment_bytes
  pub drop : edit (Drop 1) ≡ drop_bytes
  pub high : edit (High 5 chain) ≡ high_bytes
  pub safe_point : edit (SafePoint 258) ≡ safe_point_bytes
  pub regions : edit (Regions 4) ≡ regions_bytes
  pub count : edit (Count 258) ≡ count_bytes

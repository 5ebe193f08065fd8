-- The one spelling of edits and of a manifest's header.
use Rattle.std.specs.Prelude.{◌≡◌, ℕ, ℤ, ◌^◌, ◌<◌, List, [], ◌∷◌, ◌++◌, length, Option, Some, None, FitsSigned}
use Rattle.std.specs.Int.{w16, w32, w64, to_be_bytes, cast_unsigned}
use Rattle.std.specs.List.{All, flat_map}
use Rattle.column_block.specs.declared.column.Column.{Column}
use Rattle.column_block.specs.declared.column.Kind.{Kind}
use Rattle.column_block.specs.declared.column.Kind.TheVariants.{Int, Uint, Bytes}
use Rattle.flash_types.specs.declared.range.HandleRange.{HandleRange}
use Rattle.manifest_form.specs.declared.state.StoredFile.{StoredFile}
use Rattle.manifest_form.specs.declared.state.StoredFile.TheVariants.{Tiny, DeleteRange}
use Rattle.manifest_form.specs.declared.state.StoredSegment.{StoredSegment}
use Rattle.manifest_form.specs.declared.state.Edit.{Edit}
use Rattle.manifest_form.specs.declared.state.Edit.TheVariants.{Next, Segment, Drop, High, SafePoint, Regions, Count}

abbrev pub handle : ℤ → List ℕ
handle z = to_be_bytes w64 (cast_unsigned w64 z)

abbrev pub high : Option ℤ → List ℕ
high None = 0 ∷ []
high (Some z) = 1 ∷ handle z

abbrev pub range : HandleRange → List ℕ
range r = handle r.low ++ high r.high

abbrev pub stable : Option ℕ → List ℕ
stable None = 0 ∷ []
stable (Some file) = 1 ∷ to_be_bytes w32 file

unfoldable pub stored : StoredFile → List ℕ
stored (Tiny file) = 1 ∷ to_be_bytes w32 file
stored (DeleteRange r) = 2 ∷ range r

unfoldable pub segment : StoredSegment → List ℕ
segment s = to_be_bytes w32 s.id ++ (range s.range ++ (stable s.stable ++ (to_be_bytes w64 (length s.delta) ++ flat_map stored s.delta)))

unfoldable pub edit : Edit → List ℕ
edit (Next file) = 1 ∷ to_be_bytes w32 file
edit (Segment s) = 2 ∷ segment s
edit (Drop id) = 3 ∷ to_be_bytes w32 id
edit (High entries chain) = 4 ∷ (to_be_bytes w64 entries ++ chain)
edit (SafePoint ts) = 5 ∷ to_be_bytes w64 ts
edit (Regions file) = 6 ∷ to_be_bytes w32 file
edit (Count entries) = 7 ∷ to_be_bytes w64 entries

-- ---- the header

abbrev pub kind : Kind → ℕ
kind Int = 1
kind Uint = 2
kind Bytes = 3

unfoldable pub column : Column → List ℕ
column c = to_be_bytes w32 c.id ++ (kind c.kind ∷ [])

-- `FLMF`, version 1, the table, and the columns behind their count
abbrev pub header : ℤ → List Column → List ℕ
header table columns = 70 ∷ 76 ∷ 77 ∷ 70 ∷ 0 ∷ 1 ∷ (handle table ++ (to_be_bytes w16 (length columns) ++ flat_map column columns))

-- ---- every number is one of its type, as it is in the program

abbrev pub ColumnFits : Column → Type 0
ColumnFits c = c.id < 2 ^ 32

abbrev pub EndFits : Option ℤ → Type 0
EndFits None = Unit {0}
EndFits (Some z) = FitsSigned w64 z

abbrev pub RangeFits : HandleRange → Type 0
RangeFits r = FitsSigned w64 r.low × EndFits r.high

abbrev pub NameFits : Option ℕ → Type 0
NameFits None = Unit {0}
NameFits (Some file) = file < 2 ^ 32

abbrev pub StoredFits : StoredFile → Type 0
StoredFits (Tiny file) = file < 2 ^ 32
StoredFits (DeleteRange r) = RangeFits r

pub record SegmentFits (s : StoredSegment) : Type 0 where
  pub id : s.id < 2 ^ 32
  pub range : RangeFits s.range
  pub stable : NameFits s.stable
  pub count : length s.delta < 2 ^ 64
  pub delta : All StoredFits s.delta

abbrev pub EditFits : Edit → Type 0
EditFits (Next file) = file < 2 ^ 32
EditFits (Segment s) = SegmentFits s
EditFits (Drop id) = id < 2 ^ 32
EditFits (High entries chain) = (entries < 2 ^ 64) × (length chain ≡ 32)
EditFits (SafePoint ts) = ts < 2 ^ 64
EditFits (Regions file) = file < 2 ^ 32
EditFits (Count entries) = entries < 2 ^ 64

-- What contracts see of a slot, what an entry puts into it, and what its files say.
use Rattle.std.specs.Prelude.{◌≡◌, ℕ, ◌+◌, Bool, Option, Some, None, List, [], ◌∷◌, ◌++◌, length, map, filter, replicate, if◌then◌else◌}
use Rattle.column_block.specs.declared.cell.Version.{Version}
use Rattle.column_block.specs.Handles.{lies_in}
use Rattle.flash_types.specs.Ranges.{common, has_any}
use Rattle.flash_types.specs.declared.range.HandleRange.{HandleRange}
use Rattle.column_file.specs.declared.file.ColumnFile.{ColumnFile}
use Rattle.column_file.specs.declared.file.ColumnFile.TheVariants.{Mem, Tiny, DeleteRange}
use Rattle.stable_file.specs.declared.file.StableFile.{StableFile}
use Rattle.stable_file.specs.Opened.{count_in, packs_of}
use Rattle.std.specs.List.{sum_by}
use Rattle.delta_layer.specs.Files.{file_of}
use Rattle.delta_layer.specs.declared.view.SegmentView.{SegmentView}
use Rattle.prefix_laws.specs.Clipped.{speaks}
use Rattle.prefix_laws.specs.Tagged.{Tagged, TaggedSegment, tagged_of}

-- A segment, the number of its stable file, how many files of its delta the manifest names, and for each file behind them how many entries were applied when it came, its tag.
pub record Slotted (G : Type 0) : Type 0 where
  pub id : ℕ
  pub range : HandleRange
  pub epoch : ℕ
  pub files : List ColumnFile
  pub stable : Option (StableFile G)
  pub stable_number : Option ℕ
  pub named : ℕ
  pub tags : List ℕ

-- ---- files, clipped to a range

abbrev pub is_in : HandleRange → Version → Bool
is_in range v = lies_in range.low range.high v

abbrev pub kept : HandleRange → List Version → List Version
kept range versions = filter (is_in range) versions

abbrev pub clip_file : HandleRange → ColumnFile → ColumnFile
clip_file range (Mem block) = Mem (kept range block)
clip_file range (Tiny file block) = Tiny file (kept range block)
clip_file range (DeleteRange other) = DeleteRange (common range other)

-- whether a file can say something
abbrev pub file_speaks : ColumnFile → Bool
file_speaks f = speaks (file_of f)

-- clipped, and those left out that say nothing then
abbrev pub clip_files : HandleRange → List ColumnFile → List ColumnFile
clip_files range files = filter file_speaks (map (clip_file range) files)

-- ---- what an entry puts into a slot

abbrev pub unless_empty : HandleRange → Option ColumnFile
unless_empty range = if has_any range then Some (DeleteRange range) else None

abbrev pub cleared_file : HandleRange → Option HandleRange → Option ColumnFile
cleared_file range None = None
cleared_file range (Some other) = unless_empty (common range other)

abbrev pub block_file : List Version → Option ColumnFile
block_file [] = None
block_file (v ∷ vs) = Some (Mem (v ∷ vs))

abbrev pub added_file : HandleRange → List Version → Option ColumnFile
added_file range versions = block_file (kept range versions)

-- the rows that a file has in memory alone, and all that it has
abbrev pub mem_rows : ColumnFile → ℕ
mem_rows (Mem block) = length block
mem_rows _ = 0

abbrev pub file_rows : ColumnFile → ℕ
file_rows (Mem block) = length block
file_rows (Tiny file block) = length block
file_rows (DeleteRange range) = 0

-- the versions that a stable part has in the packs that meet the range
abbrev pub rows_below : {G : Type 0} → HandleRange → Option (StableFile G) → ℕ
rows_below range None = 0
rows_below range (Some file) = count_in range (packs_of file)

-- the counts that are kept beside a slot's files
pub record AreCounts {G : Type 0} (range : HandleRange) (files : List ColumnFile) (stable : Option (StableFile G)) (in_memory in_delta in_stable : ℕ) : Type 0 where
  pub mem : in_memory ≡ sum_by mem_rows files
  pub delta : in_delta ≡ sum_by file_rows files
  pub below : in_stable ≡ rows_below range stable

abbrev pub tagged : List ℕ → List ColumnFile → List Tagged
tagged [] files = []
tagged (t ∷ ts) [] = []
tagged (t ∷ ts) (f ∷ fs) = record { tag = t; file = file_of f } ∷ tagged ts fs

module _ {G : Type 0} where
  abbrev pub pushed : ℕ → ColumnFile → Slotted G → Slotted G
  pushed tag file s = record { id = s.id; range = s.range; epoch = s.epoch; files = s.files ++ file ∷ []; stable = s.stable; stable_number = s.stable_number; named = s.named; tags = s.tags ++ tag ∷ [] }

  abbrev pub pushed_some : ℕ → Option ColumnFile → Slotted G → Slotted G
  pushed_some tag None s = s
  pushed_some tag (Some file) s = pushed tag file s

  -- A slot after an entry: its delete-range and then its versions come last, both clipped to the slot, where they say something of it.
  abbrev pub absorbed : ℕ → Option HandleRange → List Version → Slotted G → Slotted G
  absorbed tag clears adds s = pushed_some tag (added_file s.range adds) (pushed_some tag (cleared_file s.range clears) s)

  -- its segment, as a view shows it
  abbrev pub view_of : Slotted G → SegmentView G
  view_of s = record { seg = s.id; range = s.range; epoch = s.epoch; delta = s.files; stable = s.stable }

  -- its number and its handles
  abbrev pub key_of : Slotted G → ℕ × HandleRange
  key_of s = (s.id, s.range)

  -- ---- what the files of a slot say, with their tags: a named one has tag 0

  abbrev pub IsTagged : Slotted G → Type 0
  IsTagged s = length s.files ≡ s.named + length s.tags

  abbrev pub tags_of : Slotted G → List ℕ
  tags_of s = replicate s.named 0 ++ s.tags

  -- with the versions that its stable part has
  abbrev pub told_of : List Version → Slotted G → TaggedSegment
  told_of stable s = tagged_of s.range stable (tagged (tags_of s) s.files)

-- ---- files with a tag each, as an install carries them over

abbrev pub told_one : ℕ × ColumnFile → Tagged
told_one q = record { tag = q.0; file = file_of q.1 }

abbrev pub clip_pair : HandleRange → ℕ × ColumnFile → ℕ × ColumnFile
clip_pair range q = (q.0, clip_file range q.1)

abbrev pub pair_speaks : ℕ × ColumnFile → Bool
pair_speaks q = file_speaks q.1

abbrev pub clip_pairs : HandleRange → List (ℕ × ColumnFile) → List (ℕ × ColumnFile)
clip_pairs range pairs = filter pair_speaks (map (clip_pair range) pairs)

abbrev pub pairs_of : List ℕ → List ColumnFile → List (ℕ × ColumnFile)
pairs_of [] files = []
pairs_of (t ∷ ts) [] = []
pairs_of (t ∷ ts) (f ∷ fs) = (t, f) ∷ pairs_of ts fs

abbrev pub tag_in : ℕ × ColumnFile → ℕ
tag_in q = q.0

abbrev pub file_in : ℕ × ColumnFile → ColumnFile
file_in q = q.1

-- files that are put together for a new slot, and a tag for each
pub record Gathered : Type 0 where
  pub files : List ColumnFile
  pub tags : List ℕ

abbrev pub with_pairs : Gathered → List (ℕ × ColumnFile) → Gathered
with_pairs r pairs = record { files = r.files ++ map file_in pairs; tags = r.tags ++ map tag_in pairs }

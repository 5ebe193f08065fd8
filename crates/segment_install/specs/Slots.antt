-- The slots that take the place of a segment's or of two, by the work that built them.
use Rattle.std.specs.Prelude.{◌≡◌, ℕ, ◌+◌, ◌-◌, ◌<◌, ◌≤◌, false, Option, Some, None, List, ◌++◌, length, map, take, drop}
use Rattle.std.specs.List.{AllByRecursion}
use Rattle.column_file.specs.declared.file.ColumnFile.{ColumnFile}
use Rattle.flash_types.specs.declared.range.HandleRange.{HandleRange}
use Rattle.stable_file.specs.declared.file.StableFile.{StableFile}
use Rattle.delta_layer.specs.Files.{is_tiny}
use Rattle.delta_layer.specs.Repacked.{replaced}
use Rattle.delta_layer.specs.declared.view.SegmentView.{SegmentView}
use Rattle.segment_list.specs.Slots.{Slotted, IsTagged, clip_files, clip_pairs, file_in, pairs_of, tag_in}
use Rattle.segment_install.specs.declared.part.Part.{Part}

-- ---- a view of a slot

-- The slot is the view's segment, unchanged but for files that came since. None of these is a tiny file, and some count of entries lies between the tags of the view's files and theirs: no entry is cut in two.
pub record Fits {G : Type 0} (v : SegmentView G) (s : Slotted G) : Type 0 where
  pub id : s.id ≡ v.seg
  pub range : s.range ≡ v.range
  pub epoch : s.epoch ≡ v.epoch
  pub stable : s.stable ≡ v.stable
  pub rest : List ColumnFile
  pub files : s.files ≡ v.delta ++ rest
  pub no_tiny : AllByRecursion (λ (f : ColumnFile). is_tiny f ≡ false) rest
  pub count : ℕ
  pub by : AllByRecursion (λ (t : ℕ). t ≤ count) (take (length v.delta - s.named) s.tags)
  pub later : AllByRecursion (λ (t : ℕ). count < t) (drop (length v.delta - s.named) s.tags)

-- what came behind the first files: those that are named, and the others with their tags
pub record Rest : Type 0 where
  pub named : List ColumnFile
  pub others : List (ℕ × ColumnFile)

abbrev pub rest_of : {G : Type 0} → ℕ → Slotted G → Rest
rest_of n s = record { named = take (s.named - n) (drop n s.files); others = pairs_of (drop (n - s.named) s.tags) (drop (s.named - n) (drop n s.files)) }

-- ---- a stable part

abbrev pub part_file : {G : Type 0} → Option (Part G) → Option (StableFile G)
part_file None = None
part_file (Some part) = Some part.file

abbrev pub part_number : {G : Type 0} → Option (Part G) → Option ℕ
part_number None = None
part_number (Some part) = Some part.number

-- ---- the slots

-- One tiny file stands for the named files from..to.
abbrev pub compacted_slot : {G : Type 0} → ℕ → ℕ → ColumnFile → Slotted G → Slotted G
compacted_slot from to one s = record { id = s.id; range = s.range; epoch = s.epoch + 1; files = replaced from to one s.files; stable = s.stable; stable_number = s.stable_number; named = s.named - (to - from) + 1; tags = s.tags }

-- The stable part stands for the old one and the first n files.
abbrev pub merged_slot : {G : Type 0} → ℕ → Option (Part G) → Slotted G → Slotted G
merged_slot n part s = record { id = s.id; range = s.range; epoch = s.epoch + 1; files = drop n s.files; stable = part_file part; stable_number = part_number part; named = s.named - n; tags = drop (n - s.named) s.tags }

-- A new segment: its first files are named, and the others have tags.
abbrev pub new_slot : {G : Type 0} → ℕ → HandleRange → Option (Part G) → Rest → Slotted G
new_slot id range part rest = record { id = id; range = range; epoch = 0; files = rest.named ++ map file_in rest.others; stable = part_file part; stable_number = part_number part; named = length rest.named; tags = map tag_in rest.others }

abbrev pub clip_rest : HandleRange → Rest → Rest
clip_rest range rest = record { named = clip_files range rest.named; others = clip_pairs range rest.others }

-- what is named of both, and then the others of both
abbrev pub both_rests : Rest → Rest → Rest
both_rests left right = record { named = left.named ++ right.named; others = left.others ++ right.others }

-- a half of a split: what came since is clipped to it
abbrev pub half_slot : {G : Type 0} → ℕ → HandleRange → Option (Part G) → ℕ → Slotted G → Slotted G
half_slot id range part n s = new_slot id range part (clip_rest range (rest_of n s))

-- The segment of two: what came since to each is clipped to its own handles.
abbrev pub joined_slot : {G : Type 0} → ℕ → HandleRange → Option (Part G) → ℕ → Slotted G → ℕ → Slotted G → Slotted G
joined_slot id range part n l m r = new_slot id range part (both_rests (clip_rest l.range (rest_of n l)) (clip_rest r.range (rest_of m r)))

-- What the code asks of a slot whose files from place n on are carried over.
pub record IsBehind {G : Type 0} (n : ℕ) (s : Slotted G) : Type 0 where
  pub tagged : IsTagged s
  pub within : n ≤ length s.files
  pub no_tiny : AllByRecursion (λ (f : ColumnFile). is_tiny f ≡ false) (drop n s.files)

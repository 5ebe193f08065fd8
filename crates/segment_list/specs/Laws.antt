-- Laws of what the files of slots say.
use Rattle.std.specs.Prelude.{◌≡◌, ◌⊎◌, ◌≤◌, ◌<◌, ℕ, ℤ, true, Option, List, ◌++◌, length, map, position, is_some, int_le, slice_index_or}
use Rattle.column_block.specs.declared.cell.Version.{Version}
use Rattle.column_file.specs.declared.file.ColumnFile.{ColumnFile}
use Rattle.flash_types.specs.declared.range.HandleRange.{HandleRange}
use Rattle.flash_types.specs.Ranges.{holds}
use Rattle.good_replica.specs.Good.{CoversFrom}
use Rattle.stable_file.specs.declared.file.StableFile.{StableFile}
use Rattle.std.specs.List.{AllByRecursion}
use Rattle.prefix_laws.specs.Clipped.{absorb, clip}
use Rattle.prefix_laws.specs.Tagged.{TaggedSegment}
use Rattle.delta_layer.specs.Repacked.{Repacked}
use Rattle.segment_list.specs.Flushes.{flushed_files, flushed_slot}
use Rattle.segment_list.specs.Lists.{range_alone}
use Rattle.segment_list.specs.Order.{IsSlot}
use Rattle.segment_list.specs.Slots.{Slotted, IsTagged, absorbed, told_of, told_one, tagged, clip_pairs, pairs_of, Gathered, with_pairs}

abbrev pub AbsorbedSlotsSayTheEntry : Type 0 → Type 0
AbsorbedSlotsSayTheEntry G = (tag : ℕ) (clears : Option HandleRange) (adds stable : List Version) (s : Slotted G) → IsTagged s → (told_of stable (absorbed tag clears adds s) ≡ absorb tag clears adds (told_of stable s)) × IsTagged (absorbed tag clears adds s)

abbrev pub ClippedFilesSayTheirPart : Type 0
ClippedFilesSayTheirPart = (range : HandleRange) (pairs : List (ℕ × ColumnFile)) → map told_one (clip_pairs range pairs) ≡ clip range (map told_one pairs)

-- A slot that was in order is so after an entry.
abbrev pub AbsorbedSlotsStayInOrder : Type 0 → Type 0
AbsorbedSlotsStayInOrder G = (committed last tag : ℕ) (clears : Option HandleRange) (adds : List Version) (s : Slotted G) → last ≤ tag → committed < tag → IsSlot committed last s → IsSlot committed tag (absorbed tag clears adds s)

-- Where the slots cover the handles, one has the handle.
abbrev pub CoveredHandlesHaveASlot : Type 0 → Type 0
CoveredHandlesHaveASlot G = (low : ℤ) (slots : List (Slotted G)) (h : ℤ) → CoversFrom low (map range_alone slots) → int_le low h ≡ true → is_some (position (λ (s : Slotted G). holds s.range h) slots) ≡ true

-- Where the slots cover the handles, no two of them have the same handle.
abbrev pub OneSlotHasAHandle : Type 0 → Type 0
OneSlotHasAHandle G = (low : ℤ) (slots : List (Slotted G)) (h : ℤ) (i j : ℕ) (d : Slotted G) → CoversFrom low (map range_alone slots) → i < length slots → j < length slots → holds (slice_index_or slots i d).range h ≡ true → holds (slice_index_or slots j d).range h ≡ true → i ≡ j

-- The same of all slots, where the stable parts are read in any way.
abbrev pub told_by : {G : Type 0} → (Option (StableFile G) → List Version) → Slotted G → TaggedSegment
told_by read s = told_of (read s.stable) s

abbrev pub AbsorbedListsSayTheEntry : Type 0 → Type 0
AbsorbedListsSayTheEntry G = (tag : ℕ) (clears : Option HandleRange) (adds : List Version) (read : Option (StableFile G) → List Version) (slots : List (Slotted G)) → AllByRecursion (λ (s : Slotted G). IsTagged s) slots → map (told_by read) (map (absorbed tag clears adds) slots) ≡ map (absorb tag clears adds) (map (told_by read) slots)

-- What is gathered of files says what they said, clipped.
abbrev pub GatheredFilesSayTheirPart : Type 0
GatheredFilesSayTheirPart = (range : HandleRange) (r : Gathered) (tags : List ℕ) (files : List ColumnFile) → length r.files ≡ length r.tags → (tagged (with_pairs r (clip_pairs range (pairs_of tags files))).tags (with_pairs r (clip_pairs range (pairs_of tags files))).files ≡ tagged r.tags r.files ++ clip range (tagged tags files)) × (length (with_pairs r (clip_pairs range (pairs_of tags files))).files ≡ length (with_pairs r (clip_pairs range (pairs_of tags files))).tags)

-- The files of a flushed delta came from it by flushes, or are the same.
abbrev pub FlushedFilesAreRepacked : Type 0
FlushedFilesAreRepacked = (n : ℕ) (files : List ColumnFile) → Repacked files (flushed_files n files) ⊎ (flushed_files n files ≡ files)

-- A slot that was in order is so once it is flushed, whatever was committed and applied since, for it has no tag.
abbrev pub FlushedSlotsAreInOrder : Type 0 → Type 0
FlushedSlotsAreInOrder G = (committed last after latest n : ℕ) (s : Slotted G) → IsSlot committed last s → IsSlot after latest (flushed_slot n s)

-- What holds of slots that are flushed, in an image and in a manifest.
use Rattle.std.specs.Prelude.{◌≡◌, ℕ, ◌<◌, ◌≤◌, Bool, true, List, map, Option}
use Rattle.std.specs.List.{AllByRecursion, list_any}
use Rattle.column_block.specs.declared.cell.Version.{Version}
use Rattle.column_block.specs.declared.column.Column.{Column}
use Rattle.flash_io.specs.Image.{Image}
use Rattle.prefix_laws.specs.Tagged.{content}
use Rattle.replica_store.specs.Naming.{is_file_of}
use Rattle.segment_flush.specs.Flushing.{flushed_slots}
use Rattle.segment_flush.specs.Names.{stored_of}
use Rattle.segment_list.specs.Laws.{told_by}
use Rattle.segment_list.specs.Order.{IsSlot}
use Rattle.segment_list.specs.Slots.{Slotted}
use Rattle.stable_file.specs.declared.file.StableFile.{StableFile}
use Rattle.store_image.specs.Images.{AreSegmentsRead}
use Rattle.segment_staging.specs.Staging.{AreWritten}

-- Where an image has what is named of slots, as it is at a count, and has the files that their flushes write, it has what is named of them once they are flushed.
abbrev pub FlushedSlotsAreRead : Type 0 → Type 0
FlushedSlotsAreRead G = (read : Option (StableFile G) → List Version) (own : ℕ) (c : Image) (columns : List Column) (first k last : ℕ) (p : Slotted G → Bool) (n : ℕ) (slots : List (Slotted G)) → own < first → first ≤ n → AllByRecursion (IsSlot k last) slots
    → AreSegmentsRead own c columns (map stored_of slots) (map (content k) (map (told_by read) slots))
    → AllByRecursion (λ (s : Slotted G). AreWritten columns first c s.files) (flushed_slots p n slots)
    → AreSegmentsRead own c columns (map stored_of (flushed_slots p n slots)) (map (content k) (map (told_by read) (flushed_slots p n slots)))

-- a file is named for slots
abbrev pub IsNamedFor : {G : Type 0} → ℕ → List (Slotted G) → Type 0
IsNamedFor file slots = list_any (is_file_of file) (map stored_of slots) ≡ true

-- What was named of slots is named once they are flushed; and what is named then, and is below the first number of the flushes, was named.
pub record FlushedSlotsAreNamed (G : Type 0) : Type 0 where
  pub still : (file committed last : ℕ) (p : Slotted G → Bool) (n : ℕ) (slots : List (Slotted G)) → AllByRecursion (IsSlot committed last) slots → IsNamedFor file slots → IsNamedFor file (flushed_slots p n slots)
  pub back : (file committed last : ℕ) (p : Slotted G → Bool) (n : ℕ) (slots : List (Slotted G)) → file < n → AllByRecursion (IsSlot committed last) slots → IsNamedFor file (flushed_slots p n slots) → IsNamedFor file slots

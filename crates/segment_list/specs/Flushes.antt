-- What a flush makes of a slot.
use Rattle.std.specs.Prelude.{◌≡◌, ℕ, ◌+◌, List, [], ◌∷◌, length, fold, if◌then◌else◌}
use Rattle.std.specs.List.{list_any}
use Rattle.column_file.specs.declared.file.ColumnFile.{ColumnFile}
use Rattle.column_file.specs.declared.file.ColumnFile.TheVariants.{Mem, Tiny, DeleteRange}
use Rattle.delta_layer.specs.Files.{is_mem}
use Rattle.segment_list.specs.declared.flush.Flush.{Flush}
use Rattle.segment_list.specs.Slots.{Slotted}

-- a file once it is flushed: a block in memory becomes the tiny file of this number
abbrev pub flushed_file : ℕ → ColumnFile → ColumnFile
flushed_file n (Mem block) = Tiny n block
flushed_file n (Tiny file block) = Tiny file block
flushed_file n (DeleteRange range) = DeleteRange range

-- the number for the next block
abbrev pub after_file : ℕ → ColumnFile → ℕ
after_file n (Mem block) = n + 1
after_file n (Tiny file block) = n
after_file n (DeleteRange range) = n

abbrev pub after_files : ℕ → List ColumnFile → ℕ
after_files n files = fold after_file n files

-- the files of a delta, their blocks in memory numbered in order from n on
abbrev pub flushed_files : ℕ → List ColumnFile → List ColumnFile
flushed_files n [] = []
flushed_files n (f ∷ fs) = flushed_file n f ∷ flushed_files (after_file n f) fs

-- All of the delta is named then, and the epoch is higher by 1 where it had a block in memory.
abbrev pub flushed_slot : {G : Type 0} → ℕ → Slotted G → Slotted G
flushed_slot n s = record { id = s.id; range = s.range; epoch = if list_any is_mem s.files then s.epoch + 1 else s.epoch; files = flushed_files n s.files; stable = s.stable; stable_number = s.stable_number; named = length s.files; tags = [] }

-- a flush of these files
pub record IsFlushOf (files : List ColumnFile) (flush : Flush) : Type 0 where
  pub layer : flush.layer ≡ flushed_files flush.from files
  pub next : flush.next ≡ after_files flush.from files

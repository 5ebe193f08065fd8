-- Files that are staged for a commit to name.
use Rattle.std.specs.Prelude.{◌≡◌, ◌⊎◌, ℕ, ◌<◌, ◌≤◌, ◌^◌, List, Option, Ok}
use Rattle.std.specs.List.{AllByRecursion}
use Rattle.flash_io.specs.Image.{Image, Holds}
use Rattle.column_block.specs.declared.column.Column.{Column}
use Rattle.column_file.specs.Tiny.{tiny_at}
use Rattle.column_file.specs.declared.file.ColumnFile.{ColumnFile}
use Rattle.column_file.specs.declared.file.ColumnFile.TheVariants.{Mem, Tiny, DeleteRange}
use Rattle.manifest.specs.declared.store.Manifest.{Manifest}
use Rattle.segment_flush.specs.Flushing.{after_one, has_more, plan_of}
use Rattle.segment_list.specs.Slots.{Slotted}
use Rattle.segment_list.specs.declared.flush.Flush.{Flush}
use Rattle.store_image.specs.Sound.{SameNamed}

-- the number of a tiny file is below this one
abbrev pub IsFileBelow : ℕ → ColumnFile → Type 0
IsFileBelow next (Mem block) = Unit {0}
IsFileBelow next (Tiny file block) = file < next
IsFileBelow next (DeleteRange range) = Unit {0}

abbrev pub AreBelow : ℕ → List ColumnFile → Type 0
AreBelow next files = AllByRecursion (IsFileBelow next) files

-- An image has the tiny file, if its number is one from `first` on, and it is read there.
abbrev pub IsWritten : List Column → ℕ → Image → ColumnFile → Type 0
IsWritten columns first c (Mem block) = Unit {0}
IsWritten columns first c (Tiny file block) = (file < first) ⊎ ((bytes : List ℕ) × Holds c file bytes × (tiny_at columns bytes ≡ Ok block))
IsWritten columns first c (DeleteRange range) = Unit {0}

abbrev pub AreWritten : List Column → ℕ → Image → List ColumnFile → Type 0
AreWritten columns first c files = AllByRecursion (IsWritten columns first c) files

-- a slot's plan, if it is flushed, is by a number that isn't below this one, and its numbers suffice
pub record IsPlannedFrom {G : Type 0} (next : ℕ) (s : Slotted G) (plan : Option Flush) : Type 0 where
  pub from : ℕ
  pub is : plan ≡ plan_of (has_more s) from s
  pub fresh : next ≤ from
  pub room : after_one (has_more s) from s < 2 ^ 32

-- An image has the files that a store names, with the root and the manifest's, as one of the others has them.
abbrev pub IsNamedIn : Manifest → (Image → Type 0) → Image → Type 0
IsNamedIn m others c = (d : Image) × others d × SameNamed m.file m.state d c

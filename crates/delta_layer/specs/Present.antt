-- The versions of a segment that are present.
use Rattle.std.specs.Prelude.{◌≡◌, ℕ, ℤ, true, List, Option, Result, Ok, Err}
use Rattle.std.specs.List.{AllByRecursion}
use Rattle.column_block.specs.declared.cell.Version.{Version}
use Rattle.flash_types.specs.Ranges.{holds}
use Rattle.flash_types.specs.declared.range.HandleRange.{HandleRange}
use Rattle.column_file.specs.declared.file.ColumnFile.{ColumnFile}
use Rattle.stable_file.specs.declared.fault.ReadError.{ReadError}
use Rattle.stable_file.specs.declared.file.StableFile.{StableFile}
use Rattle.stable_file.specs.Faults.{FailsOrDevice}
use Rattle.good_replica.specs.Changed.{view, had}
use Rattle.good_replica.specs.Trail.{DeltaFile}
use Rattle.column_block.specs.Order.{Rise}
use Rattle.delta_layer.specs.Files.{files_of}
use Rattle.delta_layer.specs.Stable.{stable_in}

-- each version's handle is in the range
abbrev pub AreWithin : HandleRange → List Version → Type 0
AreWithin range versions = AllByRecursion (λ (v : Version). holds range v.handle ≡ true) versions

-- These are the versions that are present in a segment of this range, of these stable versions and these files of a delta: they rise by handle and timestamp, and of each handle of the range they have at each timestamp what the segment has.
pub record ArePresent (range : HandleRange) (stable : List Version) (files : List DeltaFile) (versions : List Version) : Type 0 where
  pub rise : Rise versions
  pub within : AreWithin range versions
  pub here : (h : ℤ) (ts : ℕ) → holds range h ≡ true → had h versions ts ≡ view h stable files ts

-- The same of a stable part that reads as some versions.
pub record IsPresent {G : Type 0} (bytes : G → List ℕ) (range : HandleRange) (part : Option (StableFile G)) (files : List ColumnFile) (versions : List Version) : Type 0 where
  pub stable : List Version
  pub reads : stable_in bytes part ≡ Ok stable
  pub present : ArePresent range stable (files_of files) versions

-- What a call answers that reads a stable part through a device: the versions that are present, or as the reading of the stable part fails.
abbrev pub GivesPresent : {G : Type 0} → (G → List ℕ) → HandleRange → Option (StableFile G) → List ColumnFile → Result (List Version) ReadError → Type 0
GivesPresent bytes range part files (Ok versions) = IsPresent bytes range part files versions
GivesPresent bytes range part files (Err e) = FailsOrDevice e (stable_in bytes part)

-- There is one such list.
abbrev pub PresentIsUnique : Type 0
PresentIsUnique = (range : HandleRange) (stable : List Version) (files : List DeltaFile) (some others : List Version) → ArePresent range stable files some → ArePresent range stable files others → some ≡ others

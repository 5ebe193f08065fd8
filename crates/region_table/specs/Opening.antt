-- The file of a checkpoint's regions, opened over a log.
use Rattle.std.specs.Prelude.{◌≡◌, ℕ, Bool, List, Result, Ok, Err}
use Rattle.committed_log.specs.Log.{Log}
use Rattle.region_file.specs.Regions.{regions_of}
use Rattle.region_file.specs.declared.fault.TableError.TheVariants as unread
use Rattle.region_table.specs.Table.{Kept, Table, Agrees, AreRegionsAt}
use Rattle.region_table.specs.declared.opening.OpenFault.{OpenFault}
use Rattle.region_table.specs.declared.opening.OpenFault.TheVariants as fault

-- the bytes are the file of the log's regions where the entries of a set are applied
abbrev pub IsFileOf : Log → (ℕ → Bool) → List ℕ → Type 0
IsFileOf log A bytes = (regions : List (ℕ × Kept)) × (regions_of bytes ≡ Ok regions) × AreRegionsAt log A regions

-- the table has the regions of the file, and is the log's at the set that these tell
pub record IsOpened (log : Log) (bytes : List ℕ) (t : Table) : Type 0 where
  pub file : regions_of bytes ≡ Ok t.regions
  pub table : Agrees log t

-- why the regions of a file aren't opened
abbrev pub IsRegionsFault : Log → List (ℕ × Kept) → OpenFault → Type 0
IsRegionsFault log regions (fault.Damaged at) = ⊥
IsRegionsFault log regions fault.OtherLog = (A : ℕ → Bool) → AreRegionsAt log A regions → ⊥
IsRegionsFault log regions fault.Memory = Unit {0}

-- why the bytes aren't opened: they aren't of the form, or are the file of the log at no set
abbrev pub IsOpenFault : Log → List ℕ → OpenFault → Type 0
IsOpenFault log bytes (fault.Damaged at) = regions_of bytes ≡ Err (unread.Damaged at)
IsOpenFault log bytes fault.OtherLog = (regions : List (ℕ × Kept)) × (regions_of bytes ≡ Ok regions) × ((A : ℕ → Bool) → AreRegionsAt log A regions → ⊥)
IsOpenFault log bytes fault.Memory = Unit {0}

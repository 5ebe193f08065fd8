-- To be believed.
-- What an opening finds on a disk, and how it leaves it.
use Rattle.std.specs.Prelude.{◌≡◌, ◌⊎◌, ℕ, Bool, false, List, map, Option, Some, None, Ok}
use Rattle.std.specs.List.{AllByRecursion}
use Rattle.flash_io.specs.Crash.{LeavesOnly}
use Rattle.flash_io.specs.Image.{Image}
use Rattle.flash_io.specs.Runs as runs
use Rattle.flash_io.specs.declared.disk.Disk.{Ghosts}
use Rattle.column_block.specs.declared.column.Column.{Column}
use Rattle.committed_log.specs.Log.{Log}
use Rattle.log_laws.specs.Chains.{chain_at}
use Rattle.manifest.specs.Made.{IsFresh, new_store}
use Rattle.manifest.specs.Stores.{HasStore, IsKept, IsNew, IsRead, has_of}
use Rattle.manifest.specs.declared.store.Manifest.{Manifest}
use Rattle.manifest_form.specs.declared.recover.Recovered.{Recovered}
use Rattle.manifest_form.specs.declared.state.State.{State}
use Rattle.region_file.specs.Regions.{regions_of}
use Rattle.region_table.specs.Table.{Agrees, Table, empty_table}
use Rattle.replica_state.specs.Core.{AreSlots}
use Rattle.segment_flush.specs.Names.{stored_of}
use Rattle.segment_list.specs.Slots.{Slotted}
use Rattle.store_image.specs.Images.{HasFile, StandsFor, columns_in}
use Rattle.store_image.specs.Sound.{IsSound}
use Rattle.opened_segments.specs.Opened.{IsSlotIn}
use Rattle.opened_store.specs.Causes.{IsOfLog, IsRefusal}
use Rattle.opened_store.specs.declared.fault.OpenCause.{OpenCause}

-- the new store of a log
abbrev pub begun_store : Log → Recovered
begun_store log = new_store log.table (columns_in log) (chain_at log 0)

module _ {D R G : Type 0} (d : Ghosts D R G) where
  -- a crash at any moment between the two disks leaves what has P
  abbrev pub LeavesAlways : D → D → (Image → Type 0) → Type 0
  LeavesAlways old new P = LeavesOnly d.moment d.left_since old new P

  abbrev pub IsUntouched : D → D → Type 0
  IsUntouched old new = runs.Untouched d.files d.may_leave d.moment d.left_since old new

  -- A sound disk stays sound; and where the disk, as it reads, stands for a log with a set and a safe point, each image of any moment is one of the old disk, or stands for the same.
  pub record KeepsDisk (log : Log) (old new : D) : Type 0 where
    pub sound : IsSound log (d.files old) (d.may_leave old) → IsSound log (d.files new) (d.may_leave new)
    pub moments : (A : ℕ → Bool) (safe : ℕ) → IsSound log (d.files old) (d.may_leave old) → StandsFor log A safe (d.files old) → LeavesAlways old new (λ c. d.may_leave old c ⊎ StandsFor log A safe c)

  -- The store that the disk has, which is read alone; or where nothing was ever committed one that was made, after which it is the same in each image.
  abbrev pub IsFoundOrMade : Log → D → D → Manifest → Type 0
  IsFoundOrMade log old new m =
      (IsUntouched old new × (d.tells → HasStore (d.files old) m.file (has_of m)) × (m.steadied ≡ false))
      ⊎ ((d.tells → IsNew (d.files old)) × IsFresh log.table (columns_in log) (chain_at log 0) m × IsKept (d.may_leave new) m)

  -- The store is of the log, the disk reads it, and what was sound is still.
  pub record IsFound (log : Log) (old new : D) (m : Manifest) : Type 0 where
    pub of_log : IsOfLog log (has_of m)
    pub read : IsRead d.tells (d.files new) m
    pub how : IsFoundOrMade log old new m

  -- after an error the disk is untouched where its cause is in what the disk reads
  abbrev pub IsUntouchedBy : OpenCause → D → D → Type 0
  IsUntouchedBy cause old new = IsRefusal cause → IsUntouched old new

-- The table has the regions of the file, as an image has it whose manifest stands in the file `own`, or is empty where there is none.
abbrev pub AreRegionsOpened : ℕ → Image → Option ℕ → Table → Type 0
AreRegionsOpened own c None t = t ≡ empty_table
AreRegionsOpened own c (Some file) t = HasFile own c file (λ bytes. regions_of bytes ≡ Ok t.regions)

-- The table is the log's, and the segments are those that the state names.
pub record AreParts {G : Type 0} (log : Log) (s : State) (t : Table) (slots : List (Slotted G)) : Type 0 where
  pub table : Agrees log t
  pub stored : map stored_of slots ≡ s.segments
  pub order : AreSlots (columns_in log) s.next 0 0 slots

-- They have what the files hold that the state names.
pub record ArePartsIn {G : Type 0} (bytes : G → List ℕ) (columns : List Column) (own : ℕ) (c : Image) (s : State) (t : Table) (slots : List (Slotted G)) : Type 0 where
  pub regions : AreRegionsOpened own c s.regions t
  pub segments : AllByRecursion (IsSlotIn bytes own c columns) slots

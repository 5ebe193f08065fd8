-- What contracts see of a disk with the manifest of its store.
use Rattle.std.specs.Prelude.{◌≡◌, ◌≤◌, ◌<◌, ◌-◌, ◌^◌, ℕ, List, true}
use Rattle.flash_io.specs.Crash.{Durable, LeavesOnly, NoNew}
use Rattle.flash_io.specs.Faults.{Rose}
use Rattle.flash_io.specs.Image.{Image, Holds}
use Rattle.flash_io.specs.Runs as runs
use Rattle.flash_io.specs.declared.disk.Disk.{Ghosts}
use Rattle.manifest_form.specs.States.{all_done}
use Rattle.manifest_form.specs.declared.state.Edit.{Edit}
use Rattle.manifest.specs.Runs.{OldOrNew}
use Rattle.manifest.specs.Stores.{Becomes, IsKept, has_of, has_with}
use Rattle.manifest.specs.declared.store.Manifest.{Manifest}

-- a disk, the manifest of its store, and the disk's count of faults when it was opened
pub record Stored (D : Type 0) : Type 0 where
  pub disk : D
  pub manifest : Manifest
  pub opened_faults : ℕ

-- the greatest Next with which there is room for the numbers that a step may take
abbrev pub most_next : ℕ
most_next = 2147483000

module _ {D R G : Type 0} (d : Ghosts D R G) where
  -- the disk hasn't failed since it was opened
  abbrev pub IsWhole : Stored D → Type 0
  IsWhole s = (d.fault_count s.disk ≤ s.opened_faults) × (d.fault_count s.disk < 2 ^ 64 - 1)

  -- in each image stands what the manifest has
  abbrev pub IsKeptOn : Stored D → Type 0
  IsKeptOn s = IsKept (d.may_leave s.disk) s.manifest

  -- the manifest is steadied, and while the disk is whole, each image has what the manifest has
  pub record IsStore (s : Stored D) : Type 0 where
    pub counted : s.opened_faults ≤ d.fault_count s.disk
    pub steadied : s.manifest.steadied ≡ true
    pub kept : IsWhole s → IsKeptOn s

  -- ---- what a call does

  -- A crash at any moment from the old store to the new one leaves what has P.
  abbrev pub LeavesAlways : Stored D → Stored D → (Image → Type 0) → Type 0
  LeavesAlways old new P = LeavesOnly d.moment d.left_since old.disk new.disk P

  -- the disk's count of faults rose
  abbrev pub HasFailed : Stored D → Stored D → Type 0
  HasFailed old new = Rose (d.fault_count old.disk) (d.fault_count new.disk)

  -- the counts of faults don't fall, and that of the readers stays
  abbrev pub Counted : Stored D → Stored D → Type 0
  Counted old new = runs.Counted d.fault_count d.reader_fault_count d.never_fails old.disk new.disk

  -- the disk reads as it did, and at no moment was an image new
  abbrev pub Untouched : Stored D → Stored D → Type 0
  Untouched old new = runs.Untouched d.files d.may_leave d.moment d.left_since old.disk new.disk

  -- the disk reads as it did, and no image is new at the end
  pub record AsBefore (old new : Stored D) : Type 0 where
    pub files : d.files new.disk ≡ d.files old.disk
    pub none_new : NoNew (d.may_leave old.disk) (d.may_leave new.disk)

  -- Nothing is named: the manifest is as it was, and each image has it where each had it.
  pub record NamesNothing (old new : Stored D) : Type 0 where
    pub manifest : new.manifest ≡ old.manifest
    pub opened_faults : new.opened_faults ≡ old.opened_faults
    pub kept : IsKeptOn old → IsKeptOn new

  -- the file is there with these bytes, as it reads and in each image
  pub record IsStaged (file : ℕ) (bytes : List ℕ) (s : Stored D) : Type 0 where
    pub durable : Durable file bytes (d.may_leave s.disk)
    pub read : d.tells → Holds (d.files s.disk) file bytes

  -- the manifest has the state after the edits, and each image has it
  pub record IsCommitted (edits : List Edit) (old new : Stored D) : Type 0 where
    pub manifest : Becomes old.manifest (all_done old.manifest.state edits) new.manifest
    pub kept : IsKeptOn new

  -- an image has the state before the edits or the one after them, whole, and all other files as they might have been
  abbrev pub BeforeOrAfter : List Edit → Stored D → Image → Type 0
  BeforeOrAfter edits s = OldOrNew (d.may_leave s.disk) s.manifest.file (has_of s.manifest) (has_with s.manifest (all_done s.manifest.state edits))

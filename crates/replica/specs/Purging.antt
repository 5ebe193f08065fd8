-- To be believed.
-- What a purge does.
use Rattle.std.specs.Prelude.{◌≡◌, ℕ, nat_le, List, map}
use Rattle.std.specs.List.{filter}
use Rattle.flash_io.specs.Image.{Image}
use Rattle.flash_io.specs.declared.disk.Disk.{Ghosts}
use Rattle.replica_state.specs.Changes.{with_kept_from}
use Rattle.store_clearing.specs.Clearing.{HasCleared, HasKnownAlone, KeepsKnown}
use Rattle.replica.specs.Learner.{Learner}
use Rattle.replica.specs.declared.retired.Retired.{Retired}

-- the files that went out of use at this generation or later
abbrev pub retired_from : ℕ → List Retired → List Retired
retired_from kept_from retired = filter (λ it. nat_le kept_from it.generation) retired

abbrev pub retired_file : Retired → ℕ
retired_file it = it.file

-- their numbers
abbrev pub needed_files : ℕ → List Retired → List ℕ
needed_files kept_from retired = map retired_file (retired_from kept_from retired)

-- Besides the files of the disk nothing has changed but which generations are kept.
pub record HasPurged {D G : Type 0} (kept_from : ℕ) (old new : Learner D G) : Type 0 where
  pub core : new.core ≡ with_kept_from kept_from old.core
  pub retired : new.retired ≡ retired_from kept_from old.retired
  pub manifest : new.store.manifest ≡ old.store.manifest

-- Needed are the root, the manifest's file, those that are named, and those that went out of use at this generation or later. Each file that is there is needed.
abbrev pub HasNeededAlone : {D G : Type 0} → ℕ → Learner D G → Image → Type 0
HasNeededAlone kept_from old files = HasKnownAlone old.store.manifest (needed_files kept_from old.retired) files

module _ {D R G : Type 0} (d : Ghosts D R G) where
  -- So many files of the disk are gone: each that was there and isn't needed.
  abbrev pub HasRemoved : {H : Type 0} → (kept_from many : ℕ) → Learner D H → Learner D H → Type 0
  HasRemoved kept_from many old new = HasCleared d (needed_files kept_from old.retired) many old.store new.store

  -- Every file that is needed is as it was.
  abbrev pub KeepsNeeded : {H : Type 0} → ℕ → Learner D H → Learner D H → Type 0
  KeepsNeeded kept_from old new = KeepsKnown old.store.manifest (needed_files kept_from old.retired) (d.files old.store.disk) (d.files new.store.disk)

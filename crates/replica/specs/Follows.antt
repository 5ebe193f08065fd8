-- To be believed.
-- What stays of a replica over its steps: how a later one follows an earlier one.
use Rattle.std.specs.Prelude.{◌≡◌, ◌⊎◌, ℕ, ◌<◌, ◌≤◌, true, List}
use Rattle.std.specs.List.{Contains}
use Rattle.flash_io.specs.Crash.{LeavesOnly}
use Rattle.flash_io.specs.declared.disk.Disk.{Ghosts}
use Rattle.good_state.specs.Follows.{StateFollows}
use Rattle.replica_store.specs.Naming.{is_file_in}
use Rattle.replica.specs.Learner.{Learner, Sound, IsPromised}
use Rattle.replica.specs.declared.retired.Retired.{Retired}

-- a retired file is kept, or the least generation that is kept has passed it
abbrev pub KeepsRetired : ℕ → List Retired → List Retired → Type 0
KeepsRetired kept_from new old = (it : Retired) → Contains old it → Contains new it ⊎ (it.generation < kept_from)

-- the file went out of use at this generation or later
pub record IsRetiredSince (generation file : ℕ) (retired : List Retired) : Type 0 where
  pub it : Retired
  pub there : Contains retired it
  pub same : it.file ≡ file
  pub since : generation ≤ it.generation

-- the file is named, or went out of use since the old state, or the least generation that is kept has passed that of the old state
abbrev pub StaysOrRetires : {D G : Type 0} → Learner D G → Learner D G → ℕ → Type 0
StaysOrRetires new old file = (is_file_in file new.store.manifest.state ≡ true) ⊎ (IsRetiredSince old.core.numbers.generation file new.retired ⊎ (old.core.numbers.generation < new.core.numbers.kept_from))

module _ {D R G : Type 0} (d : Ghosts D R G) (bytes : G → List ℕ) where
  -- It follows the old one. What a crash leaves at any moment between the two is what the old one promises.
  pub record Follows (new old : Learner D G) : Type 0 where
    pub opened_faults : new.store.opened_faults ≡ old.store.opened_faults
    pub faults : d.fault_count old.store.disk ≤ d.fault_count new.store.disk
    pub core : StateFollows new.core old.core
    pub retired : KeepsRetired new.core.numbers.kept_from new.retired old.retired
    pub files : (file : ℕ) → is_file_in file old.store.manifest.state ≡ true → StaysOrRetires new old file
    pub sound : Sound d bytes old → Sound d bytes new
    pub moments : Sound d bytes old → LeavesOnly d.moment d.left_since old.store.disk new.store.disk (IsPromised old.core)

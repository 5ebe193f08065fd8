-- To be believed.
-- What a replica has once it is opened.
use Rattle.std.specs.Prelude.{◌≡◌, ℕ, Bool, List, [], Result, Ok, Err}
use Rattle.flash_io.specs.Image.{Image}
use Rattle.flash_types.specs.declared.settings.Settings.{Settings}
use Rattle.committed_log.specs.Log.{Log}
use Rattle.manifest_form.specs.declared.state.State.{State}
use Rattle.opened_store.specs.Opening.{AreParts}
use Rattle.replica.specs.Learner.{Learner}
use Rattle.replica_state.specs.Core.{Core, full}
use Rattle.replica_state.specs.declared.numbers.Numbers.{Numbers}
use Rattle.replica_state.specs.Opening.{IsOpened}
use Rattle.restart.specs.declared.refusal.OpenError.{OpenError}
use Rattle.store_image.specs.Images.{StandsFor}

-- High is the mark, and no file went out of use
abbrev pub numbers_of : State → Numbers
numbers_of s = record { mark = s.high; safe_point = s.safe_point; high = s.high; next = s.next; generation = 0; kept_from = 0 }

-- It has what its store's state names, no entry was applied since, and no file went out of use.
pub record IsReopened {D G : Type 0} (log : Log) (settings : Settings) (r : Learner D G) : Type 0 where
  pub core : IsOpened log r.core.slots r.core.table (numbers_of r.store.manifest.state) settings r.core
  pub parts : AreParts log r.store.manifest.state r.core.table r.core.slots
  pub retired : r.retired ≡ []

-- its applied entries and its safe point are those for which the image stands
abbrev pub HasSet : {G : Type 0} → Log → Image → Core G → Type 0
HasSet log c s = (A : ℕ → Bool) (safe : ℕ) → StandsFor log A safe c → ((p : ℕ) → full s p ≡ A p) × (s.numbers.safe_point ≡ safe)

-- the disk, whatever the answer is
abbrev pub disk_of : {D R G : Type 0} → Result (Learner D G) (OpenError D R G) → D
disk_of (Ok r) = r.store.disk
disk_of (Err e) = e.disk

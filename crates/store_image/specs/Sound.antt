-- To be believed.
-- Which disks an opening may be given, and what keeps them so.
use Rattle.std.specs.Prelude.{◌≡◌, ℕ, true, false}
use Rattle.flash_io.specs.Image.{Image}
use Rattle.committed_log.specs.Log.{Log}
use Rattle.manifest_form.specs.declared.recover.Recovered.{Recovered}
use Rattle.manifest_form.specs.declared.state.State.{State}
use Rattle.manifest.specs.Made.{IsUnmade}
use Rattle.manifest.specs.Stores.{IsNew, HasStore}
use Rattle.replica_store.specs.Naming.{is_file_in, is_named}
use Rattle.store_image.specs.Images.{StandsForSome}

-- the image has each file that a state names as the disk reads it
abbrev pub AreAlike : Image → Image → State → Type 0
AreAlike files c s = (file : ℕ) → is_file_in file s ≡ true → c file ≡ files file

-- As the disk reads nothing was committed: a store may be made there, and no image has one that names a file.
pub record MayBeMade (files : Image) (outcomes : Image → Type 0) : Type 0 where
  pub unmade : IsUnmade files outcomes
  pub none : (c : Image) → outcomes c → (own : ℕ) (has : Recovered) → HasStore c own has → (file : ℕ) → is_file_in file has.state ≡ false

-- A disk is sound for a log: each image that it may leave stands for the log, and has each file that it names as the disk reads it.
pub record IsSound (log : Log) (files : Image) (outcomes : Image → Type 0) : Type 0 where
  pub stands : (c : Image) → outcomes c → StandsForSome log c
  pub alike : (c : Image) → outcomes c → (own : ℕ) (has : Recovered) → HasStore c own has → AreAlike files c has.state
  pub new : IsNew files → MayBeMade files outcomes

-- Two images are the same in the root, the manifest's file, and the files that a state names.
abbrev pub SameNamed : ℕ → State → Image → Image → Type 0
SameNamed own s d c = (file : ℕ) → is_named own s file ≡ true → c file ≡ d file

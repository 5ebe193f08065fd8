-- To be believed.
-- Which files are removed from a store's disk, and which stay.
use Rattle.std.specs.Prelude.{◌≡◌, ◌↔◌, ℕ, true, false, None, List, length}
use Rattle.std.specs.List.{Contains}
use Rattle.std.specs.List.Sorted.{IsStrictlyIncreasing}
use Rattle.flash_io.specs.Image.{Image, IsThere}
use Rattle.flash_io.specs.declared.disk.Disk.{Ghosts}
use Rattle.manifest.specs.declared.store.Manifest.{Manifest}
use Rattle.replica_store.specs.Naming.{is_known}
use Rattle.replica_store.specs.Store.{Stored}

-- all files but these are as they were
abbrev pub SameButThese : List ℕ → Image → Image → Type 0
SameButThese files old new = (file : ℕ) → (Contains files file → ⊥) → new file ≡ old file

-- An image has all files but these as one of the others has them.
abbrev pub IsLeftBut : List ℕ → (Image → Type 0) → Image → Type 0
IsLeftBut files others c = (d : Image) × others d × SameButThese files d c

-- the root, the manifest's file, those that its state names and those that are still needed are as they were
abbrev pub KeepsKnown : Manifest → List ℕ → Image → Image → Type 0
KeepsKnown m needed old new = (file : ℕ) → is_known m.file m.state needed file ≡ true → new file ≡ old file

-- An image has each known file as one of the others has it.
abbrev pub IsCleared : Manifest → List ℕ → (Image → Type 0) → Image → Type 0
IsCleared m needed others c = (d : Image) × others d × KeepsKnown m needed d c

-- each file that is there is known
abbrev pub HasKnownAlone : Manifest → List ℕ → Image → Type 0
HasKnownAlone m needed files = (file : ℕ) → IsThere files file → is_known m.file m.state needed file ≡ true

module _ {D R G : Type 0} (d : Ghosts D R G) where
  -- So many files of the disk are gone: each that was there and isn't known.
  pub record HasCleared (needed : List ℕ) (many : ℕ) (old new : Stored D) : Type 0 where
    pub files : List ℕ
    pub rising : IsStrictlyIncreasing files
    pub each : (file : ℕ) → Contains files file ↔ (IsThere (d.files old.disk) file × (is_known old.manifest.file old.manifest.state needed file ≡ false))
    pub count : many ≡ length files
    pub gone : (file : ℕ) → Contains files file → d.files new.disk file ≡ None

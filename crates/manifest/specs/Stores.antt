-- What an image of a disk has of a store, and what a manifest has of its disk.
use Rattle.std.specs.Prelude.{◌≡◌, ◌⊎◌, ℕ, ◌<◌, List, Option, Some, None, Result, Ok, Err}
use Rattle.flash_io.specs.Image.{Image, Holds, IsThere}
use Rattle.flash_io.specs.Crash.{Durable}
use Rattle.manifest_form.specs.declared.fault.Fault.TheVariants.{At}
use Rattle.manifest_form.specs.declared.fault.Fault.TheVariants as faults
use Rattle.manifest_form.specs.declared.state.State.{State}
use Rattle.manifest_form.specs.declared.recover.Recovered.{Recovered}
use Rattle.manifest_form.specs.Walk.{root_of, manifest_of}
use Rattle.manifest_form.specs.Takes.{IsRoot, IsManifest, Closes}
use Rattle.manifest.specs.declared.fault.ManifestError.{ManifestError}
use Rattle.manifest.specs.declared.fault.ManifestError.TheVariants.{NotAStore, Version, Damaged, Device, Memory}
use Rattle.manifest.specs.declared.store.Manifest.{Manifest}

-- ---- as an image reads

-- nothing was ever committed
abbrev pub IsNew : Image → Type 0
IsNew image = ((file : ℕ) → image file ≡ None) ⊎ ((root : List ℕ) × Holds image 0 root × (root_of root ≡ Ok None))

-- files, but no root
abbrev pub IsNoStore : Image → Type 0
IsNoStore image = (image 0 ≡ None) × ((file : ℕ) × IsThere image file)

-- the root names this file
abbrev pub Names : Image → ℕ → Type 0
Names image file = (root : List ℕ) × Holds image 0 root × (root_of root ≡ Ok (Some file))

-- it names this file, in which a store stands
pub record HasStore (image : Image) (file : ℕ) (has : Recovered) : Type 0 where
  pub names : Names image file
  pub content : List ℕ
  pub is : Holds image file content
  pub reads : manifest_of file content ≡ Ok has

-- it names this file, which is the root itself or isn't there
abbrev pub NamesNone : Image → ℕ → Type 0
NamesNone image file = Names image file × ((file ≡ 0) ⊎ (image file ≡ None))

-- the root isn't of the form from this place on, or it names a file that isn't there, or one that isn't of the form
abbrev pub IsDamaged : Image → ℕ → ℕ → Type 0
IsDamaged image file at =
    ((file ≡ 0) × ((root : List ℕ) × Holds image 0 root × (root_of root ≡ Err (At at))))
    ⊎ ((at ≡ 0) × NamesNone image file)
    ⊎ (Names image file × ((content : List ℕ) × Holds image file content × (manifest_of file content ≡ Err (At at))))

abbrev pub HasVersion : Image → ℕ → Type 0
HasVersion image found = (file : ℕ) × Names image file × ((content : List ℕ) × Holds image file content × (manifest_of file content ≡ Err (faults.Version found)))

-- ---- what a manifest has

abbrev pub has_of : Manifest → Recovered
has_of m = record { header = record { table = m.table; columns = m.columns }; state = m.state }

-- the same with another state
abbrev pub has_with : Manifest → State → Recovered
has_with m state = record { header = record { table = m.table; columns = m.columns }; state = state }

-- the same store in the same file, with this state
pub record Becomes (old : Manifest) (named : State) (new : Manifest) : Type 0 where
  pub file : new.file ≡ old.file
  pub root_at : new.root_at ≡ old.root_at
  pub table : new.table ≡ old.table
  pub columns : new.columns ≡ old.columns
  pub steadied : new.steadied ≡ old.steadied
  pub state : new.state ≡ named

-- the answer of an opening is what the image has
abbrev pub OpensAs : Image → Result (Option Manifest) ManifestError → Type 0
OpensAs image (Ok None) = IsNew image
OpensAs image (Ok (Some m)) = HasStore image m.file (has_of m)
OpensAs image (Err NotAStore) = IsNoStore image
OpensAs image (Err (Version found)) = HasVersion image found
OpensAs image (Err (Damaged file at)) = IsDamaged image file at
OpensAs image (Err Device) = Unit {0}
OpensAs image (Err Memory) = Unit {0}

-- The root and the manifest's file hold what the manifest has, and behind that a closed gate. What it is to hold bytes is said by the first argument.
pub record Stands (holds : ℕ → List ℕ → Type 0) (m : Manifest) : Type 0 where
  pub root : List ℕ
  pub root_closes : Closes (IsRoot m.file) m.root_at root
  pub root_held : holds 0 root
  pub content : List ℕ
  pub closes : Closes (IsManifest m.file (has_of m)) m.at content
  pub held : holds m.file content

-- as the disk reads, where it tells
abbrev pub IsRead : Type 0 → Image → Manifest → Type 0
IsRead tells files m = Stands (λ file bytes. tells → Holds files file bytes) m

-- in each outcome of a crash
abbrev pub IsKept : (Image → Type 0) → Manifest → Type 0
IsKept outcomes m = Stands (λ file bytes. Durable file bytes outcomes) m

-- in all files below this one it is an old image, as while files from it on are staged
abbrev pub Beneath : ℕ → (Image → Type 0) → Image → Type 0
Beneath first old c = (d : Image) × old d × ((file : ℕ) → file < first → c file ≡ d file)

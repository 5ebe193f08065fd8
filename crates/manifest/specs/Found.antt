-- What the parts of an opening find.
use Rattle.std.specs.Prelude.{◌≡◌, ◌⊎◌, ℕ, ◌<◌, List, Option, Some, None, false, Result, Ok, Err}
use Rattle.flash_io.specs.Image.{Image, Holds}
use Rattle.manifest_form.specs.declared.fault.Fault.{Fault}
use Rattle.manifest_form.specs.declared.fault.Fault.TheVariants as faults
use Rattle.manifest_form.specs.declared.root.RootEnd.{RootEnd}
use Rattle.manifest_form.specs.Walk.{root_of, manifest_of}
use Rattle.manifest_form.specs.Takes.{IsRoot, IsManifest, Closes}
use Rattle.manifest.specs.declared.fault.ManifestError.{ManifestError}
use Rattle.manifest.specs.declared.fault.ManifestError.TheVariants.{NotAStore, Version, Damaged, Device, Memory}
use Rattle.manifest.specs.declared.store.Manifest.{Manifest}
use Rattle.manifest.specs.Stores.{has_of}

-- the refusal of a file that has this fault
abbrev pub refusal_of : ℕ → Fault → ManifestError
refusal_of file (faults.At at) = Damaged file at
refusal_of file (faults.Version found) = Version found
refusal_of file faults.Memory = Memory

-- what a root says, and where its records end
abbrev pub RootAnswers : List ℕ → Result (Option RootEnd) ManifestError → Type 0
RootAnswers bytes (Ok None) = root_of bytes ≡ Ok None
RootAnswers bytes (Ok (Some name)) = (root_of bytes ≡ Ok (Some name.file)) × Closes (IsRoot name.file) name.at bytes × (0 < name.at)
RootAnswers bytes (Err (Damaged file at)) = (file ≡ 0) × (root_of bytes ≡ Err (faults.At at))
RootAnswers bytes (Err (Version found)) = ⊥
RootAnswers bytes (Err NotAStore) = ⊥
RootAnswers bytes (Err Device) = ⊥
RootAnswers bytes (Err Memory) = Unit {0}

-- what the bytes of a manifest's file make
abbrev pub Finds : ℕ → ℕ → List ℕ → Result Manifest ManifestError → Type 0
Finds file root_at bytes (Ok m) = (m.file ≡ file) × (m.root_at ≡ root_at) × (m.steadied ≡ false) × (manifest_of file bytes ≡ Ok (has_of m)) × Closes (IsManifest file (has_of m)) m.at bytes
Finds file root_at bytes (Err (Damaged named at)) = (named ≡ file) × (manifest_of file bytes ≡ Err (faults.At at))
Finds file root_at bytes (Err (Version found)) = manifest_of file bytes ≡ Err (faults.Version found)
Finds file root_at bytes (Err NotAStore) = ⊥
Finds file root_at bytes (Err Device) = ⊥
Finds file root_at bytes (Err Memory) = Unit {0}

-- what the file of this number makes, as an image reads
abbrev pub FindsAll : Image → ℕ → Result Manifest ManifestError → Type 0
FindsAll image file (Ok m) = (content : List ℕ) × Holds image file content × (manifest_of file content ≡ Ok (has_of m))
FindsAll image file (Err (Damaged named at)) = (named ≡ file) × (((at ≡ 0) × ((file ≡ 0) ⊎ (image file ≡ None))) ⊎ ((content : List ℕ) × Holds image file content × (manifest_of file content ≡ Err (faults.At at))))
FindsAll image file (Err (Version found)) = (content : List ℕ) × Holds image file content × (manifest_of file content ≡ Err (faults.Version found))
FindsAll image file (Err NotAStore) = ⊥
FindsAll image file (Err Device) = Unit {0}
FindsAll image file (Err Memory) = Unit {0}

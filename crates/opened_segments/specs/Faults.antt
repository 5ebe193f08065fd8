-- To be believed.
-- What is wrong with the files that a state names, in the order in which they are opened.
use Rattle.std.specs.Prelude.{◌≡◌, ℕ, ◌||◌, ◌==◌, List, [], ◌∷◌, ◌++◌, length, if◌then◌else◌, Option, Some, None, Result, Ok, Err}
use Rattle.std.specs.List.{flat_map}
use Rattle.flash_io.specs.Image.{Image}
use Rattle.column_block.specs.declared.column.Column.{Column}
use Rattle.column_file.specs.Tiny.{tiny_at}
use Rattle.pack_codec.specs.declared.fault.FormError.{FormError}
use Rattle.pack_codec.specs.declared.fault.FormError.TheVariants as form
use Rattle.stable_file.specs.Footer.{tail_at}
use Rattle.manifest_form.specs.declared.state.StoredFile.{StoredFile}
use Rattle.manifest_form.specs.declared.state.StoredFile.TheVariants.{Tiny, DeleteRange}
use Rattle.manifest_form.specs.declared.state.StoredSegment.{StoredSegment}
use Rattle.opened_segments.specs.declared.fault.OpenFault.{OpenFault}
use Rattle.opened_segments.specs.declared.fault.OpenFault.TheVariants.{Damaged, Device, Memory}

-- what a file reads as, if its bytes are of the form, and else the fault that they have; a reading takes no memory
abbrev pub reading_faults : {X : Type 0} → ℕ → Result X FormError → List OpenFault
reading_faults file (Ok x) = []
reading_faults file (Err (form.Damaged at)) = Damaged file at ∷ []
reading_faults file (Err form.Memory) = []

-- the bytes of a file that has data, in an image whose manifest stands in the file `own`: neither the root nor the manifest has
abbrev pub data_in : ℕ → Image → ℕ → Option (List ℕ)
data_in own c file = if file == 0 || file == own then None else c file

-- what is wrong with a file: it isn't there, or its bytes aren't read
abbrev pub data_faults : {X : Type 0} → (List ℕ → Result X FormError) → ℕ → Option (List ℕ) → List OpenFault
data_faults read file None = Damaged file 0 ∷ []
data_faults read file (Some bytes) = reading_faults file (read bytes)

module _ (own : ℕ) (c : Image) (columns : List Column) where
  -- of a file of a delta
  abbrev pub part_faults : StoredFile → List OpenFault
  part_faults (Tiny file) = data_faults (tiny_at columns) file (data_in own c file)
  part_faults (DeleteRange range) = []

  -- of a stable part, whose packs aren't looked at
  abbrev pub stable_faults : Option ℕ → List OpenFault
  stable_faults None = []
  stable_faults (Some file) = data_faults (λ bytes. tail_at (length bytes) columns bytes) file (data_in own c file)

  -- of a segment: the files of its delta in their order, and then the stable part
  abbrev pub segment_faults : StoredSegment → List OpenFault
  segment_faults s = flat_map part_faults s.delta ++ stable_faults s.stable

  -- of segments, in their order
  abbrev pub faults_in : List StoredSegment → List OpenFault
  faults_in segments = flat_map segment_faults segments

-- it is the first of these
abbrev pub IsFirst : OpenFault → List OpenFault → Type 0
IsFirst e faults = (more : List OpenFault) × (faults ≡ e ∷ more)

-- A fault of what was read is the first of these.
abbrev pub IsFaultOf : List OpenFault → OpenFault → Type 0
IsFaultOf faults (Damaged file at) = IsFirst (Damaged file at) faults
IsFaultOf faults Device = Unit {0}
IsFaultOf faults Memory = Unit {0}

-- It is opened only where there is no fault, and refused for the first one, or since the device failed or memory ran out.
abbrev pub Judges : {T : Type 0} → List OpenFault → Result T OpenFault → Type 0
Judges faults (Ok x) = faults ≡ []
Judges faults (Err e) = IsFaultOf faults e

-- A file that has data is damaged at 0 where it isn't there, and only then, as far as it is looked for.
abbrev pub IsLost : {T : Type 0} → ℕ → Image → ℕ → Result T OpenFault → Type 0
IsLost own c file (Ok x) = Unit {0}
IsLost own c file (Err (Damaged f at)) = (f ≡ file) × (at ≡ 0) × (data_in own c file ≡ None)
IsLost own c file (Err Device) = Unit {0}
IsLost own c file (Err Memory) = Unit {0}

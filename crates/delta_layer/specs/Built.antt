-- What the builds of segments have in common.
use Rattle.std.specs.Prelude.{◌≡◌, ℕ, ◌≤◌, List, [], ◌∷◌, Option, Result, Ok, Err, OnOk, IsErrOf}
use Rattle.column_block.specs.declared.cell.Version.{Version}
use Rattle.column_block.specs.declared.column.Column.{Column}
use Rattle.column_file.specs.declared.file.ColumnFile.{ColumnFile}
use Rattle.flash_io.specs.Faults.{Rose}
use Rattle.flash_types.specs.declared.range.HandleRange.{HandleRange}
use Rattle.pack_codec.specs.declared.fault.FormError.{FormError}
use Rattle.pack_codec.specs.declared.fault.FormError.TheVariants as form
use Rattle.stable_file.specs.declared.file.StableFile.{StableFile}
use Rattle.column_block.specs.Order.{Rise}
use Rattle.delta_layer.specs.Pieces.{IsStablePiece}
use Rattle.delta_layer.specs.Present.{AreWithin, IsPresent}
use Rattle.delta_layer.specs.Stable.{stable_in}
use Rattle.delta_layer.specs.declared.built.BuildError.{BuildError}
use Rattle.delta_layer.specs.declared.built.BuildError.TheVariants.{Device, Damaged, OneHandle, Memory}
use Rattle.delta_layer.specs.declared.built.Piece.{Piece}

-- there is one, and so it is
abbrev pub IsOne : {X : Type 0} → (X → Type 0) → List X → Type 0
IsOne P [] = ⊥
IsOne P (x ∷ []) = P x
IsOne P (x ∷ y ∷ more) = ⊥

-- there are two, and so they are
abbrev pub AreTwo : {X : Type 0} → (X → X → Type 0) → List X → Type 0
AreTwo P [] = ⊥
AreTwo P (x ∷ []) = ⊥
AreTwo P (x ∷ y ∷ []) = P x y
AreTwo P (x ∷ y ∷ z ∷ more) = ⊥

-- A segment was built for this range: its versions rise and lie in the range, and its bytes are their stable file, in packs of so many rows.
pub record IsSegment (columns : List Column) (rows : ℕ) (handles : HandleRange) (piece : Piece) : Type 0 where
  pub range : piece.range ≡ handles
  pub rise : Rise piece.versions
  pub within : AreWithin handles piece.versions
  pub bytes : IsStablePiece columns rows piece.versions piece.bytes

-- It fails as the reading of a stable part does, for want of memory, or for the device; and not for having one handle.
abbrev pub FailsAs : {Y : Type 0} → BuildError → Result Y FormError → Type 0
FailsAs Device read = Unit {0}
FailsAs (Damaged at) read = read ≡ Err (form.Damaged at)
FailsAs OneHandle read = ⊥
FailsAs Memory read = Unit {0}

-- the versions that are present, or a failure as the reading of the stable part fails
abbrev pub GivesForBuild : {G : Type 0} → (G → List ℕ) → HandleRange → Option (StableFile G) → List ColumnFile → Result (List Version) BuildError → Type 0
GivesForBuild bytes range part files (Ok versions) = IsPresent bytes range part files versions
GivesForBuild bytes range part files (Err e) = FailsAs e (stable_in bytes part)

-- the reader's count of faults doesn't fall, `Device` comes only where it rose, and at any other answer it is as it was
pub record HasBuildCause {T : Type 0} (before now : ℕ) (result : Result T BuildError) : Type 0 where
  pub later : before ≤ now
  pub device : IsErrOf result Device → Rose before now
  pub quiet : OnOk result (now ≡ before)
  pub damaged : (at : ℕ) → IsErrOf result (Damaged at) → now ≡ before
  pub one : IsErrOf result OneHandle → now ≡ before
  pub memory : IsErrOf result Memory → now ≡ before

-- it doesn't fail for having one handle
abbrev pub NeverOneHandle : {T : Type 0} → Result T BuildError → Type 0
NeverOneHandle result = IsErrOf result OneHandle → ⊥

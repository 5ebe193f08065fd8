-- The last bytes of a stable file.
use Rattle.std.specs.Prelude.{◌≡◌, ℕ, ◌-◌, ◌≤◌, List, length, take, drop}
use Rattle.column_block.specs.declared.column.Column.{Column}
use Rattle.flash_io.specs.Image.{Image, Holds}
use Rattle.stable_file.specs.Footer.{size_at, tail_at}
use Rattle.stable_file.specs.Opened.{HasEnd, IsTailOf}
use Rattle.opened_segments.specs.Faults.{IsFaultOf, reading_faults}
use Rattle.opened_segments.specs.declared.fault.OpenFault.{OpenFault}
use Rattle.opened_segments.specs.declared.fault.OpenFault.TheVariants.{Damaged, Device, Memory}

-- P holds of the content of a file of this length
abbrev pub OfContent : Image → ℕ → ℕ → (List ℕ → Type 0) → Type 0
OfContent c file len P = (content : List ℕ) → Holds c file content → length content ≡ len → P content

-- these are the bytes of the file from a place on, at most so many
abbrev pub HasSlice : Image → ℕ → ℕ → ℕ → List ℕ → Type 0
HasSlice c file at most bytes = (content : List ℕ) × Holds c file content × (bytes ≡ take most (drop at content))

-- From these last bytes a footer may be read.
pub record IsTail (len : ℕ) (tail : List ℕ) : Type 0 where
  pub shorter : length tail ≤ len
  pub footer : HasEnd len tail

-- it isn't for what was read
abbrev pub IsOutside : OpenFault → Type 0
IsOutside (Damaged file at) = ⊥
IsOutside Device = Unit {0}
IsOutside Memory = Unit {0}

-- it is the fault of the footer's length, as these last twelve bytes tell it
abbrev pub IsSizeFault : ℕ → ℕ → List ℕ → OpenFault → Type 0
IsSizeFault file len last e = IsFaultOf (reading_faults file (size_at len (len - 12) last)) e

-- it is the fault of the file of this length, whatever the columns are
abbrev pub IsTailFault : Image → ℕ → ℕ → OpenFault → Type 0
IsTailFault c file len e = (columns : List Column) → OfContent c file len (λ content. IsFaultOf (reading_faults file (tail_at len columns content)) e)

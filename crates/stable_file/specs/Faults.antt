-- How a call of the program answers what a reading answers.
use Rattle.std.specs.Prelude.{◌≡◌, ℕ, ◌≤◌, Result, Ok, Err, OnOk, IsErrOf}
use Rattle.flash_io.specs.Faults.{Rose}
use Rattle.pack_codec.specs.declared.fault.FormError.{FormError}
use Rattle.pack_codec.specs.declared.fault.FormError.TheVariants as form
use Rattle.stable_file.specs.declared.fault.ReadError.{ReadError}
use Rattle.stable_file.specs.declared.fault.ReadError.TheVariants.{Device, Damaged, Memory}

-- a fault of the form as an answer
abbrev pub read_error : FormError → ReadError
read_error (form.Damaged at) = Damaged at
read_error form.Memory = Memory

-- It fails as the reading does, or for want of memory, and never for the device.
abbrev pub Fails : {Y : Type 0} → ReadError → Result Y FormError → Type 0
Fails Device read = ⊥
Fails Memory read = Unit {0}
Fails (Damaged at) read = read ≡ Err (form.Damaged at)

-- What it returned, seen by view, is what the reading gives, unless memory ran out.
abbrev pub Gives : {X Y : Type 0} → (X → Y) → Result X ReadError → Result Y FormError → Type 0
Gives view (Ok x) read = read ≡ Ok (view x)
Gives view (Err e) read = Fails e read

-- It fails as the reading does, for want of memory, or for the device.
abbrev pub FailsOrDevice : {Y : Type 0} → ReadError → Result Y FormError → Type 0
FailsOrDevice Device read = Unit {0}
FailsOrDevice Memory read = Unit {0}
FailsOrDevice (Damaged at) read = read ≡ Err (form.Damaged at)

-- The same of a call that reads a device.
abbrev pub GivesOrDevice : {X Y : Type 0} → (X → Y) → Result X ReadError → Result Y FormError → Type 0
GivesOrDevice view (Ok x) read = read ≡ Ok (view x)
GivesOrDevice view (Err e) read = FailsOrDevice e read

-- the count of faults doesn't fall, `Device` comes only where it rose, and at any other answer it is as it was
pub record HasReadCause {T : Type 0} (before now : ℕ) (result : Result T ReadError) : Type 0 where
  pub later : before ≤ now
  pub device : IsErrOf result Device → Rose before now
  pub quiet : OnOk result (now ≡ before)
  pub damaged : (at : ℕ) → IsErrOf result (Damaged at) → now ≡ before
  pub memory : IsErrOf result Memory → now ≡ before

-- It isn't for what was read.
abbrev pub IsOutside : ReadError → Type 0
IsOutside (Damaged at) = ⊥
IsOutside _ = Unit {0}

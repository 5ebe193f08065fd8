-- The errors of steps.
use Rattle.std.specs.Prelude.{◌≡◌, ℕ, ◌<◌, ◌≤◌, Result, Ok, Err}
use Rattle.manifest.specs.declared.fault.CommitError.{CommitError}
use Rattle.manifest.specs.declared.fault.CommitError.TheVariants as fault
use Rattle.replica.specs.declared.fault.SafeError.{SafeError}
use Rattle.replica.specs.declared.fault.SafeError.TheVariants as error
use Rattle.replica.specs.declared.fault.StepError.{StepError}
use Rattle.replica.specs.declared.fault.StepError.TheVariants as step

abbrev pub safe_error : CommitError → SafeError
safe_error fault.Device = error.Device
safe_error fault.Memory = error.Memory

-- `Lower` comes exactly where the safe point is above the timestamp, and tells it
abbrev pub IfLower : ℕ → ℕ → Result (Unit {0}) SafeError → Type 0
IfLower ts current (Ok done) = current ≤ ts
IfLower ts current (Err (error.Lower told)) = (told ≡ current) × (ts < current)
IfLower ts current (Err error.Device) = current ≤ ts
IfLower ts current (Err error.Memory) = current ≤ ts

abbrev pub step_error : CommitError → StepError
step_error fault.Device = step.Device
step_error fault.Memory = step.Memory

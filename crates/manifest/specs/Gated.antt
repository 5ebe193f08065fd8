-- A gated file: a front, and records behind gates. A record counts where its gate is open, that is 1, and so are those before it.
use Rattle.std.specs.Prelude.{◌≡◌, ◌⊎◌, ℕ, List, [], ◌∷◌, ◌++◌, ◌+◌, length, take, drop, Option, Some}
use Rattle.std.specs.Int.{to_be_bytes}
use Rattle.std.proofs.Common.{w64}
use Rattle.flash_io.specs.Image.{Image}
use Rattle.flash_io.specs.Crash.{Durable}
use Rattle.flash_io.specs.declared.fault.DiskFault.{DiskFault}
use Rattle.flash_io.specs.declared.fault.DiskFault.TheVariants as fault
use Rattle.manifest_form.specs.Takes.{ClosedAt}
use Rattle.manifest.specs.declared.fault.ManifestError.{ManifestError}
use Rattle.manifest.specs.declared.fault.ManifestError.TheVariants as refusal
use Rattle.manifest.specs.declared.fault.CommitError.{CommitError}
use Rattle.manifest.specs.declared.fault.CommitError.TheVariants as error

-- the cause of a commit's error by that of the call
abbrev pub commit_error : DiskFault → CommitError
commit_error fault.Failed = error.Device
commit_error fault.Memory = error.Memory

-- the cause of a refusal by that of the call
abbrev pub open_error : DiskFault → ManifestError
open_error fault.Failed = refusal.Device
open_error fault.Memory = refusal.Memory

-- with these bytes in the place of those from at on
abbrev pub overwritten : List ℕ → ℕ → List ℕ → List ℕ
overwritten content at bytes = take at content ++ bytes ++ drop (at + length bytes) content

-- what is written behind a gate: the length, the bytes, and the next closed gate
abbrev pub record_of : List ℕ → List ℕ
record_of bytes = to_be_bytes w64 (length bytes) ++ bytes ++ 0 ∷ []

-- one record more: an open gate, the length and the bytes
abbrev pub with_record : List ℕ → List ℕ → List ℕ
with_record part bytes = part ++ 1 ∷ to_be_bytes w64 (length bytes) ++ bytes

-- the file is there and has this committed part
abbrev pub IsCommitted : List ℕ → Option (List ℕ) → Type 0
IsCommitted part file = (content : List ℕ) × (file ≡ Some content) × ClosedAt part content

-- with one more record or without
abbrev pub IsBeforeOrAfter : List ℕ → List ℕ → Option (List ℕ) → Type 0
IsBeforeOrAfter part bytes file = IsCommitted part file ⊎ IsCommitted (with_record part bytes) file

-- on the disk the file is this committed part, a closed gate and the same bytes behind it in each outcome of a crash
abbrev pub IsSteady : ℕ → List ℕ → (Image → Type 0) → Type 0
IsSteady file part outcomes = (content : List ℕ) × ClosedAt part content × Durable file content outcomes

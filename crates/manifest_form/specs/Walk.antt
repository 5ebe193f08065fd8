-- How a gated file is read: record by record, up to the first gate that isn't open.
use Rattle.std.specs.Prelude.{ℕ, zero, suc, ◌-◌, Bool, true, nat_lt, nat_eq, if◌then◌else◌, List, [], ◌∷◌, length, take, drop, Option, Some, None, Result, Ok, Err}
use Rattle.std.specs.Int.{w32, w64}
use Rattle.flash_list.specs.Steps.{◌>>=◌}
use Rattle.flash_list.specs.Fields.{number_at}
use Rattle.manifest_form.specs.declared.fault.Fault.{Fault}
use Rattle.manifest_form.specs.declared.fault.Fault.TheVariants.{At}
use Rattle.manifest_form.specs.declared.state.State.{State}
use Rattle.manifest_form.specs.declared.recover.Recovered.{Recovered}
use Rattle.manifest_form.specs.Fields.{here}
use Rattle.manifest_form.specs.Header.{header_at}
use Rattle.manifest_form.specs.Edits.{edits_of}
use Rattle.manifest_form.specs.States.{after_record}

-- whether a record may have this length: any, or this one alone
abbrev pub may_have : Option ℕ → ℕ → Bool
may_have None n = true
may_have (Some wanted) n = nat_eq n wanted

-- the bytes of the record whose length stands here, and what stands behind it, in a file that ends there
unfoldable pub sized_at : Option ℕ → ℕ → List ℕ → Result (List ℕ × List ℕ) Fault
sized_at wanted end bytes = do
  len ← number_at w64 (At end) bytes
  if may_have wanted len.0 then (if nat_lt (length len.1) len.0 then Err (At end) else Ok (take len.0 len.1, drop len.0 len.1)) else Err (here end bytes)

-- the record behind the gate that stands here, if that is open, and what stands behind it
unfoldable pub record_at : Option ℕ → ℕ → List ℕ → Result (Option (List ℕ × List ℕ)) Fault
record_at wanted end [] = Err (At end)
record_at wanted end (gate ∷ bytes) = if nat_eq gate 1 then (sized_at wanted end bytes >>= λ found. Ok (Some found)) else Ok None

-- the step of a record that was found, and how the walk goes on
abbrev pub walk_on : {S : Type 0} → (ℕ → ℕ → S → List ℕ → Result S Fault) → (S → List ℕ → Result S Fault) → ℕ → ℕ → S → Option (List ℕ × List ℕ) → Result S Fault
walk_on step on end gate s None = Ok s
walk_on step on end gate s (Some found) = step gate (end - length found.1) s found.0 >>= λ next. on next found.1

-- What the records make of a state, from the gate that stands here on; at most so many are read. A step takes its gate's place, the place behind the record, the state and the record.
unfoldable pub walk : {S : Type 0} → (ℕ → ℕ → S → List ℕ → Result S Fault) → Option ℕ → ℕ → ℕ → S → List ℕ → Result S Fault
walk step wanted end zero s bytes = Err (At end)
walk step wanted end (suc most) s bytes = record_at wanted end bytes >>= λ found. walk_on step (walk step wanted end most) end (end - length bytes) s found

-- ---- the root

-- the record of a root is the number of a manifest's file, and the last one counts
abbrev pub root_step : ℕ → ℕ → Option ℕ → List ℕ → Result (Option ℕ) Fault
root_step gate stop before bytes = number_at w32 (At gate) bytes >>= λ name. Ok (Some name.0)

-- the file that a root names; none where nothing was ever committed
unfoldable pub root_of : List ℕ → Result (Option ℕ) Fault
root_of bytes = if nat_lt (length bytes) 2 then Ok None else walk root_step (Some 4) (length bytes) (length bytes) None bytes

-- ---- the manifest

-- the record of a manifest is a list of edits, after which the state has the form that a store may have
unfoldable pub manifest_step : ℕ → ℕ → ℕ → Option State → List ℕ → Result (Option State) Fault
manifest_step file gate stop before bytes = edits_of stop bytes >>= λ edits. elim (after_record file before edits) [ None ↦ Err (At gate) | Some s ↦ Ok (Some s) ]

-- the state, which at least one record gives, from the first gate on
unfoldable pub state_of : ℕ → ℕ → List ℕ → Result State Fault
state_of file end bytes = walk (manifest_step file) None end (length bytes) None bytes >>= λ found. elim found [ None ↦ Err (here end bytes) | Some s ↦ Ok s ]

-- the manifest of this number: what the store is of, and its state
unfoldable pub manifest_of : ℕ → List ℕ → Result Recovered Fault
manifest_of file bytes = do
  header ← header_at (length bytes) bytes
  state ← state_of file (length bytes) header.1
  Ok (record { header = header.0; state = state })

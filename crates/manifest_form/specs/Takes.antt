-- Bytes that a reader takes as far as they go, whatever stands behind them.
use Rattle.std.specs.Prelude.{◌≡◌, ◌≢◌, ℕ, ◌+◌, ◌≤◌, List, ◌∷◌, ◌++◌, length, Option, Some, None, Result, Ok}
use Rattle.manifest_form.specs.declared.fault.Fault.{Fault}
use Rattle.manifest_form.specs.declared.header.Header.{Header}
use Rattle.manifest_form.specs.declared.recover.Recovered.{Recovered}
use Rattle.manifest_form.specs.Header.{header_at}
use Rattle.manifest_form.specs.Walk.{record_at, walk, root_step, manifest_step}

-- the committed part, and behind it a gate that isn't open and anything behind that
pub record ClosedAt (part content : List ℕ) : Type 0 where
  pub gate : ℕ
  pub rest : List ℕ
  pub is : content ≡ part ++ gate ∷ rest
  pub closed : gate ≢ 1

-- a record of these bytes behind an open gate
pub record IsRecord (wanted : Option ℕ) (front bytes : List ℕ) : Type 0 where
  pub size : length front ≡ 9 + length bytes
  pub reads : (end : ℕ) (more : List ℕ) → record_at wanted end (front ++ more) ≡ Ok (Some (bytes, more))

-- the header of a manifest
abbrev pub IsHeader : List ℕ → Header → Type 0
IsHeader front header = (end : ℕ) (more : List ℕ) → header_at end (front ++ more) ≡ Ok (header, more)

-- From a gate at the place `from` on, these bytes take a walk from one state to another.
pub record Takes {S : Type 0} (step : ℕ → ℕ → S → List ℕ → Result S Fault) (wanted : Option ℕ) (from : ℕ) (before : S) (part : List ℕ) (after : S) : Type 0 where
  pub count : ℕ
  pub within : count ≤ length part
  pub walks : (most : ℕ) (more : List ℕ) → walk step wanted (from + length part + length more) (count + most) before (part ++ more) ≡ walk step wanted (from + length part + length more) most after more

-- the committed part of a root that names this file
abbrev pub IsRoot : ℕ → List ℕ → Type 0
IsRoot file part = Takes root_step (Some 4) 0 None part (Some file)

-- the committed part of the manifest of this number, which has this
pub record IsManifest (file : ℕ) (has : Recovered) (part : List ℕ) : Type 0 where
  pub front : List ℕ
  pub records : List ℕ
  pub is : part ≡ front ++ records
  pub header : IsHeader front has.header
  pub takes : Takes (manifest_step file) None (length front) None records (Some has.state)

-- The gate at this place is closed, and what stands before it is the committed part of a root or a manifest.
pub record Closes (P : List ℕ → Type 0) (at : ℕ) (content : List ℕ) : Type 0 where
  pub part : List ℕ
  pub size : length part ≡ at
  pub shut : ClosedAt part content
  pub holds : P part

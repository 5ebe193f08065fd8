-- A store that goes on in a new manifest file.
use Rattle.std.specs.Prelude.{◌≡◌, ◌≢◌, ◌⊎◌, ℕ, ◌+◌, true, List}
use Rattle.flash_io.specs.Image.{Image}
use Rattle.manifest_form.specs.declared.state.State.{State}
use Rattle.manifest_form.specs.declared.recover.Recovered.{Recovered}
use Rattle.manifest_form.specs.Takes.{IsManifest, Closes}
use Rattle.manifest_form.specs.Whole.{with_next}
use Rattle.manifest.specs.declared.store.Manifest.{Manifest}
use Rattle.manifest.specs.Stores.{HasStore, has_of}

-- the state with Next raised by 1
abbrev pub raised : State → State
raised s = with_next (s.next + 1) s

-- the same store in the file whose number was the old Next, which is now raised by 1
pub record Rolls (old new : Manifest) : Type 0 where
  pub file : new.file ≡ old.state.next
  pub table : new.table ≡ old.table
  pub columns : new.columns ≡ old.columns
  pub state : new.state ≡ raised old.state
  pub steadied : new.steadied ≡ true

-- it stands in the next file, which has these bytes, and the root has one record more
pub record IsNamedNext (old : Manifest) (bytes : List ℕ) (new : Manifest) : Type 0 where
  pub file : new.file ≡ old.state.next
  pub root_at : new.root_at ≡ old.root_at + 13
  pub closes : Closes (IsManifest old.state.next (has_of new)) new.at bytes

-- the old store in the old file or the new one whole in the new file, and all files but the root and the new one as they might have been
abbrev pub OldOrRolled : (Image → Type 0) → ℕ → ℕ → Recovered → Recovered → Image → Type 0
OldOrRolled old file next before after c = ((d : Image) × old d × ((other : ℕ) → other ≢ 0 → other ≢ next → c other ≡ d other)) × (HasStore c file before ⊎ HasStore c next after)

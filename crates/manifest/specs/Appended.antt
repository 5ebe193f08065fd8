-- A manifest with one record more.
use Rattle.std.specs.Prelude.{◌≡◌, ℕ, ◌+◌}
use Rattle.manifest_form.specs.declared.state.State.{State}
use Rattle.manifest.specs.declared.store.Manifest.{Manifest}
use Rattle.manifest.specs.Stores.{Becomes}

-- it has this state, and its gate stands behind a record of so many bytes
pub record IsAppended (old : Manifest) (state : State) (size : ℕ) (new : Manifest) : Type 0 where
  pub becomes : Becomes old state new
  pub at : new.at ≡ old.at + 9 + size

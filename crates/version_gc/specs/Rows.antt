-- One row's versions, collected at safe point 100.
use Rattle.std.specs.Prelude.{◌≡◌, ℕ, pos, true, false, [], ◌∷◌}
use Rattle.column_block.specs.declared.cell.Version.{Version}
use Rattle.version_gc.specs.Keep.{keep}

abbrev pub put_at : ℕ → Version
put_at ts = record { handle = pos 7; ts = ts; gone = false; cells = [] }

abbrev pub delete_at : ℕ → Version
delete_at ts = record { handle = pos 7; ts = ts; gone = true; cells = [] }

-- Of two puts the newer one stays; a delete goes with what it hides; and it stays below a newer put, so that the older one isn't read there.
pub record OneRowIsCollected : Type 0 where
  pub newest : keep 100 (put_at 50 ∷ put_at 80 ∷ []) ≡ put_at 80 ∷ []
  pub deleted : keep 100 (put_at 50 ∷ delete_at 80 ∷ []) ≡ []
  pub again : keep 100 (put_at 50 ∷ delete_at 80 ∷ put_at 120 ∷ []) ≡ delete_at 80 ∷ put_at 120 ∷ []

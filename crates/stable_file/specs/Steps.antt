-- Reading items one after the other.
use Rattle.std.specs.Prelude.{ℕ, zero, suc, List, [], ◌∷◌, Result, Ok}
use Rattle.flash_list.specs.Steps.{◌>>=◌}

-- one item for each of these, one behind the other
unfoldable pub one_for_each : {C X E : Type 0} → (C → List ℕ → Result (X × List ℕ) E) → List C → List ℕ → Result (List X × List ℕ) E
one_for_each read [] bytes = Ok ([], bytes)
one_for_each read (c ∷ cs) bytes = do
  first ← read c bytes
  others ← one_for_each read cs first.1
  Ok (first.0 ∷ others.0, others.1)

-- so many items, one behind the other; the state before an item and the item tell the state behind it
unfoldable pub so_many : {S X E : Type 0} → (S → List ℕ → Result (X × List ℕ) E) → (S → X → S) → ℕ → S → List ℕ → Result (List X × List ℕ) E
so_many read next zero state bytes = Ok ([], bytes)
so_many read next (suc count) state bytes = do
  first ← read state bytes
  others ← so_many read next count (next state first.0) first.1
  Ok (first.0 ∷ others.0, others.1)

-- Going over columns and ids one by one.
use Rattle.std.proofs.Common.{◌≡◌, ℕ, zero, suc, ◌+◌, List, [], ◌∷◌, ◌++◌, drop, slice_get, Some, Result, Ok, Bool, true, false, refl, add-one}
use Rattle.std.specs.Prelude.{find}
use Rattle.flash_list.specs.Steps.{◌>>=◌}
use Rattle.column_block.specs.declared.cell.Cell.{Cell}

-- the cells that were there before, and those of the other columns
abbrev pub with_front : List Cell → Result (List Cell) ℕ → Result (List Cell) ℕ
with_front front others = others >>= λ cells. Ok (front ++ cells)

pub finds_here : (test : ℕ → Bool) (xs : List ℕ) (k x : ℕ) → slice_get xs k ≡ Some x → test x ≡ true → find test (drop k xs) ≡ Some x
finds_here test [] k x here passes = cc here
finds_here test (y ∷ xs) zero x here passes = let same : y ≡ x = cc here in rw same (rw passes refl)
finds_here test (y ∷ xs) (suc k) x here passes = finds_here test xs k x here passes

finds_next : (test : ℕ → Bool) (xs : List ℕ) (k x : ℕ) → slice_get xs k ≡ Some x → test x ≡ false → find test (drop k xs) ≡ find test (drop (suc k) xs)
finds_next test [] k x here fails = cc here
finds_next test (y ∷ xs) zero x here fails = let same : y ≡ x = cc here in rw (same, fails) refl
finds_next test (y ∷ xs) (suc k) x here fails = finds_next test xs k x here fails

pub finds_behind : (test : ℕ → Bool) (xs : List ℕ) (k x : ℕ) → slice_get xs k ≡ Some x → test x ≡ false → find test (drop k xs) ≡ find test (drop (k + 1) xs)
finds_behind test xs k x here fails = rw add-one (finds_next test xs k x here fails)

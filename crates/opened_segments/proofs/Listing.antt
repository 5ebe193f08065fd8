-- Whether a list of numbers that rises has one.
use Rattle.std.proofs.Common.{◌≡◌, ◌∙◌, inl, inr, ⊎_elim, ℕ, ◌<◌, ◌≤◌, true, false, List, length, get_or, Result, Ok, Err, is_ok, refl, sym, ap, arith, ◌⊎◌}
use Rattle.std.specs.List.{Contains}
use Rattle.std.specs.List.Sorted.{IsBinarySearchResult, IsStrictlyIncreasing}
use Rattle.std.specs.Ordering.{nat_cmp}
use Rattle.std.proofs.lemmas.List.Kept.{AllPairs-from_increasing}
use Rattle.std.proofs.lemmas.Grind.{get_or_default_zero}
use Rattle.std.proofs.lemmas.List.Sorted.{searched}

same_or_less : (i j : ℕ) → i ≤ j → (i ≡ j) ⊎ (i < j)
same_or_less i j le = grind (arith, le)

less_or_more : (i k : ℕ) → (i < k) ⊎ (k ≤ i)
less_or_more i k = grind arith

never_falls : (xs : List ℕ) → IsStrictlyIncreasing xs → (i j : ℕ) → i ≤ j → j < length xs → get_or xs i 0 ≤ get_or xs j 0
never_falls xs rises i j le less = ⊎_elim (λ (same : i ≡ j). omega (arith, ap (λ (k : ℕ). get_or xs k 0) same)) (λ (low : i < j). let up = AllPairs-from_increasing xs rises i j 0 low less in omega (arith, up)) (same_or_less i j le)

module _ (xs : List ℕ) (x : ℕ) (rises : IsStrictlyIncreasing xs) where
  pub sought : (r : Result ℕ ℕ) → IsBinarySearchResult (λ y. nat_cmp y x) xs r → is_ok r ≡ true → Contains xs x
  sought (Ok i) h is = (let found = searched xs x (Ok i) h (never_falls xs rises) in (i, found.0, get_or_default_zero xs i x found.0 ∙ found.1))
  sought (Err k) h is = absurd (cc is)

  pub missed : (r : Result ℕ ℕ) → IsBinarySearchResult (λ y. nat_cmp y x) xs r → is_ok r ≡ false → Contains xs x → ⊥
  missed (Ok i) h is there = absurd (cc is)
  missed (Err k) h is (i, less, at) =
      let here : get_or xs i 0 ≡ x = sym (get_or_default_zero xs i x less) ∙ at in
      let none = searched xs x (Err k) h (never_falls xs rises) in
      ⊎_elim (λ (low : i < k). let below = none.1 i low in omega (arith, below, here)) (λ (high : k ≤ i). let above = none.2 i high less in omega (arith, above, here)) (less_or_more i k)

-- Counts over the first numbers, as one more comes.
use Rattle.std.proofs.Common.{◌≡◌, ◌∙◌, refl, ap, ℕ, suc, ◌+◌, Bool, true, false, cond, List, [], ◌∷◌, ◌++◌, arith, add-one, filter, length}
use Rattle.committed_log.specs.Applied.{first_numbers}

count_push : (t : ℕ → Bool) (xs : List ℕ) (x : ℕ) → length (filter t (xs ++ x ∷ [])) ≡ cond (t x) (length (filter t xs) + 1) (length (filter t xs))
count_push t [] x = elim (t x) as (λ b. length (cond b (x ∷ []) []) ≡ cond b (0 + 1) 0) [ true ↦ refl | false ↦ refl ]
count_push t (y ∷ ys) x = by (t y) (t x) (count_push t ys x)
  where
    by : (b c : Bool) → length (filter t (ys ++ x ∷ [])) ≡ cond c (length (filter t ys) + 1) (length (filter t ys)) →
        length (cond b (y ∷ filter t (ys ++ x ∷ [])) (filter t (ys ++ x ∷ []))) ≡ cond c (length (cond b (y ∷ filter t ys) (filter t ys)) + 1) (length (cond b (y ∷ filter t ys) (filter t ys)))
    by true true e = omega (arith, e)
    by true false e = ap suc e
    by false true e = e
    by false false e = e

pub count_more : (t : ℕ → Bool) (n : ℕ) → length (filter t (first_numbers (n + 1))) ≡ cond (t n) (length (filter t (first_numbers n)) + 1) (length (filter t (first_numbers n)))
count_more t n = ap (λ m. length (filter t (first_numbers m))) (add-one n) ∙ count_push t (first_numbers n) n

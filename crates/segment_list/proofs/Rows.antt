-- How many rows files have, one more each time.
use Rattle.std.proofs.Common.{◌≡◌, ◌∙◌, ap, ℕ, zero, suc, ◌+◌, List, [], ◌∷◌, ◌++◌, Some, take, add-one}
use Rattle.std.specs.Prelude.{slice_get}
use Rattle.std.specs.List.{sum_by}
use Rattle.std.proofs.lemmas.List.Sums.{sum_by_push}

pub one_more : {X : Type 0} (xs : List X) (i : ℕ) (x : X) → slice_get xs i ≡ Some x → take (suc i) xs ≡ take i xs ++ x ∷ []
one_more [] i x e = absurd (cc e)
one_more {X = X} (y ∷ ys) zero x e = (let same : y ≡ x = cc in ap (λ (z : X). z ∷ []) same)
one_more {X = X} (y ∷ ys) (suc i) x e = ap (λ (r : List X). y ∷ r) (one_more ys i x e)

pub rows_more : {X : Type 0} (f : X → ℕ) (xs : List X) (i : ℕ) (x : X) → slice_get xs i ≡ Some x → sum_by f (take (i + 1) xs) ≡ sum_by f (take i xs) + f x
rows_more f xs i x e = rw add-one (ap (sum_by f) (one_more xs i x e)) ∙ sum_by_push f (take i xs) x

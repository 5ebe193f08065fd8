-- The entries of a list in order whose keys lie in a part: what changes of the whole list do to them.
use Rattle.std.proofs.Common.{◌≡◌, ◌∙◌, refl, sym, ap, Bool, true, false, true≢false, cond, List, [], ◌∷◌, ◌++◌, filter}
use Rattle.std.specs.declared.cmp.Ordering.{Ordering}
use Rattle.std.specs.declared.cmp.Ordering.TheVariants.{Less, Equal, Greater}
use Rattle.std.specs.Ordering.{match_ordering}
use Rattle.std.specs.BTreeMap.{insert_entry}
use Rattle.std.specs.Map.{remove_entry}

module _ {K X : Type 0} (p : K → Bool) where
  abbrev within : List (K × X) → List (K × X)
  within = filter (λ e. p e.0)

  -- a key outside of the part is put
  pub within-insert : (R : K → K → Ordering) → ((x y : K) → R x y ≡ Equal → p x ≡ p y) → (es : List (K × X)) (k : K) (v : X) → p k ≡ false → within (insert_entry R es k v) ≡ within es
  within-insert R alike [] k v out = ap (λ b. cond b ((k, v) ∷ []) []) out
  within-insert R alike (e ∷ es) k v out =
      elim (R k e.0) as (λ r. R k e.0 ≡ r → within (match_ordering r ((k, v) ∷ e ∷ es) ((e.0, v) ∷ es) (e ∷ insert_entry R es k v)) ≡ within (e ∷ es)) [
        | Less ↦ λ is. ap (λ b. cond b ((k, v) ∷ within (e ∷ es)) (within (e ∷ es))) out
        | Equal ↦ λ is. let there : p e.0 ≡ false = sym (alike k e.0 is) ∙ out in ap (λ b. cond b ((e.0, v) ∷ within es) (within es)) there ∙ sym (ap (λ b. cond b (e ∷ within es) (within es)) there)
        | Greater ↦ λ is. ap (λ rest. cond (p e.0) (e ∷ rest) rest) (within-insert R alike es k v out)
      ] refl

  -- a key outside of the part is taken out
  pub within-remove : (test : K → Bool) → ((k : K) → test k ≡ true → p k ≡ false) → (es : List (K × X)) → within (remove_entry test es) ≡ within es
  within-remove test out [] = refl
  within-remove test out (e ∷ es) =
      elim (test e.0) as (λ b. test e.0 ≡ b → within (cond b es (e ∷ remove_entry test es)) ≡ within (e ∷ es)) [
        | true ↦ λ is. sym (ap (λ b. cond b (e ∷ within es) (within es)) (out e.0 is))
        | false ↦ λ is. ap (λ rest. cond (p e.0) (e ∷ rest) rest) (within-remove test out es)
      ] refl

-- a part from which another was taken that has nothing of it
pub filter-filter : {X : Type 0} (p q : X → Bool) → ((x : X) → p x ≡ true → q x ≡ true) → (xs : List X) → filter p (filter q xs) ≡ filter p xs
filter-filter p q all [] = refl
filter-filter {X} p q all (x ∷ xs) =
    elim (q x) as (λ b. q x ≡ b → filter p (cond b (x ∷ filter q xs) (filter q xs)) ≡ filter p (x ∷ xs)) [
      | true ↦ λ is. ap (λ rest. cond (p x) (x ∷ rest) rest) (filter-filter p q all xs)
      | false ↦ λ is. filter-filter p q all xs ∙ sym (ap (λ b. cond b (x ∷ filter p xs) (filter p xs)) (outside (p x) refl is))
    ] refl
  where
    outside : (b : Bool) → p x ≡ b → q x ≡ false → p x ≡ false
    outside true is not_q = absurd (true≢false (sym (all x is) ∙ not_q))
    outside false is not_q = is

pub filter-push : {X : Type 0} (p : X → Bool) (xs : List X) (x : X) → p x ≡ false → filter p (xs ++ x ∷ []) ≡ filter p xs
filter-push p [] x out = ap (λ b. cond b (x ∷ []) []) out
filter-push p (y ∷ ys) x out = ap (λ rest. cond (p y) (y ∷ rest) rest) (filter-push p ys x out)

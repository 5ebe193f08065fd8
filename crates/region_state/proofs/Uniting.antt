-- Maps that take the entries of others.
use Rattle.std.proofs.Common.{◌≡◌, ◌∙◌, refl, sym, ap, Bool, true, false, not, ◌&&◌, cond, List, [], ◌∷◌, Option, Some, filter, is_some}
use Rattle.std.specs.Cmp.{IsTotalOrder}
use Rattle.std.specs.Ordering.{is_eq}
use Rattle.std.specs.declared.cmp.Ordering.{Ordering}
use Rattle.std.specs.declared.cmp.Ordering.TheVariants.{Less, Equal}
use Rattle.std.specs.BTreeMap.{insert_entry, is_at}
use Rattle.std.specs.List.{AllByRecursion}
use Rattle.std.specs.List.Sorted.{IsStrictlySortedBy}
use Rattle.std.specs.Map.{lookup, remove_entry, keys_of}
use Rattle.committed_log.proofs.Maps.{Rise}
use Rattle.committed_log.proofs.Undo.{turned_eq, equal_is}
use Rattle.committed_log.proofs.Within.{within-insert}
use Rattle.region_state.specs.State.{outside}

one_out : {X : Type 0} (b : Bool) (x : X) (rest : Option X) → not (is_some (cond b (Some x) rest)) ≡ (not b && not (is_some rest))
one_out true x rest = refl
one_out false x rest = refl

pub filter_both : {X : Type 0} (p q : X → Bool) (xs : List X) → filter p (filter q xs) ≡ filter (λ x. q x && p x) xs
filter_both p q [] = refl
filter_both {X} p q (x ∷ xs) = elim (q x) as (λ b. filter p (cond b (x ∷ filter q xs) (filter q xs)) ≡ cond (b && p x) (x ∷ filter (λ x. q x && p x) xs) (filter (λ x. q x && p x) xs)) [
  | true ↦ ap (λ rest. cond (p x) (x ∷ rest) rest) (filter_both p q xs)
  | false ↦ filter_both p q xs
]

module _ {K : Type 0} {R : K → K → Ordering} (o : IsTotalOrder R) where
  turned : (x y : K) → is_at (R x) y ≡ is_at (R y) x
  turned x y = ap is_eq (o.antisymm x y) ∙ turned_eq (R y x)

module _ {K X : Type 0} {R : K → K → Ordering} (o : IsTotalOrder R) where
  -- none of the keys above one is equal to it or to what it is equal to
  all_stay : (k l : K) (es : List (K × X)) → R k l ≡ Equal → AllByRecursion (λ y. R l y ≡ Less) (keys_of es) → filter (λ (e : K × X). not (is_at (R k) e.0)) es ≡ es
  all_stay k l [] is above = refl
  all_stay k l (e ∷ es) is above = ap (λ b. cond b (e ∷ filter (λ (e : K × X). not (is_at (R k) e.0)) es) (filter (λ (e : K × X). not (is_at (R k) e.0)) es)) (ap (λ r. not (is_eq r)) (o.congr k l e.0 is ∙ above.0)) ∙ ap (λ rest. e ∷ rest) (all_stay k l es is above.1)

  removed_is : (k : K) (es : List (K × X)) → Rise R es → remove_entry (is_at (R k)) es ≡ filter (λ (e : K × X). not (is_at (R k) e.0)) es
  unfolding IsStrictlySortedBy
  removed_is k [] rise = refl
  removed_is k (e ∷ es) rise = elim (is_at (R k) e.0) as (λ b. is_at (R k) e.0 ≡ b → cond b es (e ∷ remove_entry (is_at (R k)) es) ≡ cond (not b) (e ∷ filter (λ (e : K × X). not (is_at (R k) e.0)) es) (filter (λ (e : K × X). not (is_at (R k) e.0)) es)) [
    | true ↦ λ is. sym (all_stay k e.0 es (equal_is (R k e.0) is) rise.0)
    | false ↦ λ is. ap (λ rest. e ∷ rest) (removed_is k es rise.1)
  ] refl

  -- one of the others is taken out
  pub outside_step : (k : K) (x : X) (others es : List (K × X)) → Rise R es → outside R ((k, x) ∷ others) es ≡ outside R others (remove_entry (is_at (R k)) es)
  outside_step k x others es rise =
      (λ i. filter (λ (e : K × X). (one_out (is_at (R e.0) k) x (lookup (is_at (R e.0)) others) ∙ ap (λ b. not b && not (is_some (lookup (is_at (R e.0)) others))) (turned o e.0 k)) i) es)
      ∙ sym (filter_both (λ (e : K × X). not (is_some (lookup (is_at (R e.0)) others))) (λ (e : K × X). not (is_at (R k) e.0)) es)
      ∙ sym (ap (outside R others) (removed_is k es rise))

  -- a key that the others have is put
  pub outside_insert : (others es : List (K × X)) (k : K) (v w : X) → lookup (is_at (R k)) others ≡ Some w → outside R others (insert_entry R es k v) ≡ outside R others es
  outside_insert others es k v w there =
      within-insert (λ x. not (is_some (lookup (is_at (R x)) others))) R (λ x y is. λ i. not (is_some (lookup (λ z. is_eq (o.congr x y z is i)) others))) es k v (ap (λ (u : Option X). not (is_some u)) there)

pub outside_none : {K X : Type 0} (R : K → K → Ordering) (others es : List (K × X)) → others ≡ [] → outside R others es ≡ es
outside_none {K} {X} R others es none = ap (λ (os : List (K × X)). outside R os es) none ∙ all es
  where
    all : (es : List (K × X)) → filter (λ (e : K × X). true) es ≡ es
    all [] = refl
    all (e ∷ es) = ap (λ rest. e ∷ rest) (all es)

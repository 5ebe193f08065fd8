-- A change more that can be taken back.
use Rattle.std.proofs.Common.{◌≡◌, ◌∙◌, refl, sym, ap, subst, true, false, cond, List, [], ◌∷◌, ◌++◌, Option, Some, IsSome}
use Rattle.std.specs.declared.cmp.Ordering.{Ordering}
use Rattle.std.specs.declared.cmp.Ordering.TheVariants.{Less, Equal, Greater}
use Rattle.std.specs.Ordering.{is_eq, ordering_reverse}
use Rattle.std.specs.Cmp.{IsTotalOrder}
use Rattle.std.specs.BTreeMap.{is_at}
use Rattle.std.proofs.lemmas.Map.Lookups.{CmpEqualImpliesEq}
use Rattle.committed_log.specs.Families.{undo_one, undone, CanUndo}

pub equal_is : (o : Ordering) → is_eq o ≡ true → o ≡ Equal
equal_is Less e = cc
equal_is Equal e = refl
equal_is Greater e = cc

pub turned_eq : (o : Ordering) → is_eq (ordering_reverse o) ≡ is_eq o
turned_eq Less = refl
turned_eq Equal = refl
turned_eq Greater = refl

self_equal : (o : Ordering) → o ≡ ordering_reverse o → is_eq o ≡ true
self_equal Less e = cc
self_equal Equal e = refl
self_equal Greater e = cc

module _ {K X : Type 0} (R : K → K → Ordering) where
  pub undone-push : (us : List (K × Option X)) (u : K × Option X) (f : K → Option X) → undone R (us ++ u ∷ []) f ≡ undone R us (undo_one R u f)
  undone-push [] u f = refl
  undone-push (x ∷ us) u f = ap (undo_one R x) (undone-push us u f)

  pub can_push : (us : List (K × Option X)) (u : K × Option X) (f : K → Option X) → IsSome (f u.0) → CanUndo R us (undo_one R u f) → CanUndo R (us ++ u ∷ []) f
  can_push [] u f here can = (here, tt)
  can_push (x ∷ us) u f here can = (subst (λ (g : K → Option X). IsSome (g x.0)) (sym (undone-push us u f)) can.0, can_push us u f here can.1)

  pub can_pop : (us : List (K × Option X)) (u : K × Option X) (f : K → Option X) → CanUndo R (us ++ u ∷ []) f → IsSome (f u.0) × CanUndo R us (undo_one R u f)
  can_pop [] u f can = (can.0, tt)
  can_pop (x ∷ us) u f can =
      let rest = can_pop us u f can.1 in
      (rest.0, (subst (λ (g : K → Option X). IsSome (g x.0)) (undone-push us u f) can.0, rest.1))

  -- the last change is taken back
  module _ (us rest : List (K × Option X)) (u : K × Option X) (f : K → Option X) (last : us ≡ rest ++ u ∷ []) (can : CanUndo R us f) where
    pub popped_there : IsSome (f u.0)
    popped_there = (can_pop rest u f (subst (λ (xs : List (K × Option X)). CanUndo R xs f) last can)).0

    module _ (g : K → Option X) (is : (q : K) → g q ≡ undo_one R u f q) where
      pub popped_can : CanUndo R rest g
      popped_can = subst (λ (h : K → Option X). CanUndo R rest h) (λ i q. sym (is q) i) (can_pop rest u f (subst (λ (xs : List (K × Option X)). CanUndo R xs f) last can)).1

      pub popped_same : (q : K) → undone R rest g q ≡ undone R us f q
      popped_same q = (λ i. undone R rest (λ z. is z i) q) ∙ ap (λ (h : K → Option X). h q) (sym (undone-push rest u f)) ∙ ap (λ (xs : List (K × Option X)). undone R xs f q) (sym last)

  module _ (o : IsTotalOrder R) (exact : CmpEqualImpliesEq R) (f g : K → Option X) (k : K) (v : X) (puts : (q : K) → g q ≡ cond (is_at (R k) q) (Some v) (f q)) where
    pub at_self : is_at (R k) k ≡ true
    at_self = self_equal (R k k) (o.antisymm k k)

    pub is_there : IsSome (g k)
    is_there = subst (λ (x : Option X). IsSome x) (sym (puts k ∙ ap (λ b. cond b (Some v) (f k)) at_self)) refl

    pub back_one : undo_one R (k, f k) g ≡ f
    back_one = λ i q. at_each q i
      where
        at_each : (q : K) → cond (is_at (R k) q) (f k) (g q) ≡ f q
        at_each q = elim (is_at (R k) q) as (λ b. is_at (R k) q ≡ b → g q ≡ cond b (Some v) (f q) → cond b (f k) (g q) ≡ f q) [ true ↦ λ is h. ap f (exact k q (equal_is (R k q) is)) | false ↦ λ is h. h ] refl (puts q)

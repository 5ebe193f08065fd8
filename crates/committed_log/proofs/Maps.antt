-- Maps as lists of entries in the order of their keys: changes keep the order, and what a look-up gives after them. The maps of the store are such lists.
use Rattle.std.proofs.Common.{◌≡◌, ◌∙◌, refl, sym, ap, Bool, true, false, cond, List, [], ◌∷◌, Some, filter}
use Rattle.std.specs.declared.cmp.Ordering.{Ordering}
use Rattle.std.specs.declared.cmp.Ordering.TheVariants.{Less, Equal, Greater}
use Rattle.std.specs.Ordering.{is_eq, match_ordering, ordering_reverse}
use Rattle.std.specs.Cmp.{IsTotalOrder}
use Rattle.std.specs.BTreeMap.{insert_entry, is_at}
use Rattle.std.specs.List.{AllByRecursion}
use Rattle.std.specs.List.Sorted.{IsStrictlySortedBy}
use Rattle.std.specs.Map.{lookup, keys_of, remove_entry}
use Rattle.std.specs.FinMap.Entries.{put, find, find-put}

insert_entry_is : {K X : Type 0} (R : K → K → Ordering) (k : K) (v : X) (es : List (K × X)) → insert_entry R es k v ≡ put R k v es
insert_entry_is R k v [] = refl
insert_entry_is R k v (e ∷ es) =
    elim (R k e.0) as (λ r. match_ordering r ((k, v) ∷ e ∷ es) ((e.0, v) ∷ es) (e ∷ insert_entry R es k v) ≡ match_ordering r ((k, v) ∷ e ∷ es) ((e.0, v) ∷ es) (e ∷ put R k v es)) [
      | Less ↦ refl
      | Equal ↦ refl
      | Greater ↦ ap (λ rest. e ∷ rest) (insert_entry_is R k v es)
    ]

lookup_is : {K X : Type 0} (R : K → K → Ordering) (q : K) (es : List (K × X)) → lookup (is_at (R q)) es ≡ find R q es
lookup_is R q [] = refl
lookup_is R q (e ∷ es) = ap (cond (is_eq (R q e.0)) (Some e.1)) (lookup_is R q es)

-- a look-up after a value is put
pub lookup-insert_entry : {K X : Type 0} {R : K → K → Ordering} (o : IsTotalOrder R) (es : List (K × X)) (k : K) (v : X) (q : K) → lookup (is_at (R q)) (insert_entry R es k v) ≡ cond (is_at (R q) k) (Some v) (lookup (is_at (R q)) es)
lookup-insert_entry {R = R} o es k v q =
    ap (lookup (is_at (R q))) (insert_entry_is R k v es) ∙ lookup_is R q (put R k v es) ∙ find-put R o q k v es ∙ ap (cond (is_at (R q) k) (Some v)) (sym (lookup_is R q es))

-- ---- keys in rising order

-- the keys of the entries strictly rise
abbrev pub Rise : {K X : Type 0} → (K → K → Ordering) → List (K × X) → Type 0
Rise R es = IsStrictlySortedBy R (keys_of es)

abbrev AreAbove : {K X : Type 0} → (K → K → Ordering) → K → List (K × X) → Type 0
AreAbove R k es = AllByRecursion (λ y. R k y ≡ Less) (keys_of es)

turned : {K : Type 0} {R : K → K → Ordering} → IsTotalOrder R → (k l : K) → R k l ≡ Greater → R l k ≡ Less
turned o k l e = o.antisymm l k ∙ ap ordering_reverse e

module _ {K X : Type 0} {R : K → K → Ordering} (o : IsTotalOrder R) where
  above_insert : (l k : K) (v : X) (es : List (K × X)) → R l k ≡ Less → AreAbove R l es → AreAbove R l (insert_entry R es k v)
  above_insert l k v [] less a = (less, tt)
  above_insert l k v (e ∷ es) less a =
      elim (R k e.0) as (λ r. AreAbove R l (match_ordering r ((k, v) ∷ e ∷ es) ((e.0, v) ∷ es) (e ∷ insert_entry R es k v))) [
        | Less ↦ (less, a)
        | Equal ↦ a
        | Greater ↦ (a.0, above_insert l k v es less a.1)
      ]

  above_more : (k l : K) (es : List (K × X)) → R k l ≡ Less → AreAbove R l es → AreAbove R k es
  above_more k l [] less a = tt
  above_more k l (e ∷ es) less a = (o.trans k l e.0 less a.0, above_more k l es less a.1)

  -- a value that is put keeps the order
  pub Rise-insert_entry : (es : List (K × X)) (k : K) (v : X) → Rise R es → Rise R (insert_entry R es k v)
  unfolding IsStrictlySortedBy
  Rise-insert_entry [] k v h = (tt, tt)
  Rise-insert_entry (e ∷ es) k v h =
      elim (R k e.0) as (λ r. R k e.0 ≡ r → Rise R (match_ordering r ((k, v) ∷ e ∷ es) ((e.0, v) ∷ es) (e ∷ insert_entry R es k v))) [
        | Less ↦ λ is. ((is, above_more k e.0 es is h.0), h)
        | Equal ↦ λ is. h
        | Greater ↦ λ is. (above_insert e.0 k v es (turned o k e.0 is) h.0, Rise-insert_entry es k v h.1)
      ] refl

module _ {K X : Type 0} (R : K → K → Ordering) where
  above_remove : (test : K → Bool) (l : K) (es : List (K × X)) → AreAbove R l es → AreAbove R l (remove_entry test es)
  above_remove test l [] a = tt
  above_remove test l (e ∷ es) a = elim (test e.0) as (λ b. AreAbove R l (cond b es (e ∷ remove_entry test es))) [ true ↦ a.1 | false ↦ (a.0, above_remove test l es a.1) ]

  -- so does one that is taken out
  pub Rise-remove_entry : (test : K → Bool) (es : List (K × X)) → Rise R es → Rise R (remove_entry test es)
  unfolding IsStrictlySortedBy
  Rise-remove_entry test [] h = h
  Rise-remove_entry test (e ∷ es) h = elim (test e.0) as (λ b. Rise R (cond b es (e ∷ remove_entry test es))) [ true ↦ h.1 | false ↦ (above_remove test e.0 es h.0, Rise-remove_entry test es h.1) ]

  above_filter : (p : K × X → Bool) (l : K) (es : List (K × X)) → AreAbove R l es → AreAbove R l (filter p es)
  above_filter p l [] a = tt
  above_filter p l (e ∷ es) a = elim (p e) as (λ b. AreAbove R l (cond b (e ∷ filter p es) (filter p es))) [ true ↦ (a.0, above_filter p l es a.1) | false ↦ above_filter p l es a.1 ]

  -- and the choice of entries
  pub Rise-filter : (p : K × X → Bool) (es : List (K × X)) → Rise R es → Rise R (filter p es)
  unfolding IsStrictlySortedBy
  Rise-filter p [] h = h
  Rise-filter p (e ∷ es) h = elim (p e) as (λ b. Rise R (cond b (e ∷ filter p es) (filter p es))) [ true ↦ (above_filter p e.0 es h.0, Rise-filter p es h.1) | false ↦ Rise-filter p es h.1 ]

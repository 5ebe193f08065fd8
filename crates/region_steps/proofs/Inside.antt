-- The entries of a map whose keys pass a test, after the map took or lost an entry whose key passes it.
use Rattle.std.proofs.Common.{◌≡◌, ◌∙◌, refl, sym, ap, Bool, true, false, true≢false, cond, List, [], ◌∷◌, filter}
use Rattle.std.specs.declared.cmp.Ordering.{Ordering}
use Rattle.std.specs.declared.cmp.Ordering.TheVariants.{Less, Equal, Greater}
use Rattle.std.specs.Ordering.{match_ordering}
use Rattle.std.specs.Cmp.{IsTotalOrder}
use Rattle.std.specs.BTreeMap.{insert_entry}
use Rattle.std.specs.List.{AllByRecursion}
use Rattle.std.specs.List.Sorted.{IsStrictlySortedBy}
use Rattle.std.specs.Map.{keys_of, remove_entry}
use Rattle.committed_log.proofs.Maps.{Rise}

abbrev AreAbove : {K X : Type 0} → (K → K → Ordering) → K → List (K × X) → Type 0
AreAbove R k es = AllByRecursion (λ y. R k y ≡ Less) (keys_of es)

module _ {K X : Type 0} {R : K → K → Ordering} (o : IsTotalOrder R) (p : K → Bool) where
  abbrev inside : List (K × X) → List (K × X)
  inside = filter (λ e. p e.0)

  front : (k : K) (v : X) (es : List (K × X)) → AreAbove R k es → insert_entry R es k v ≡ (k, v) ∷ es
  front k v [] a = refl
  front k v (e ∷ es) a = ap (λ r. match_ordering r ((k, v) ∷ e ∷ es) ((e.0, v) ∷ es) (e ∷ insert_entry R es k v)) a.0

  above_more : (k l : K) (es : List (K × X)) → R k l ≡ Less → AreAbove R l es → AreAbove R k es
  above_more k l [] less a = tt
  above_more k l (e ∷ es) less a = (o.trans k l e.0 less a.0, above_more k l es less a.1)

  above_inside : (k : K) (es : List (K × X)) → AreAbove R k es → AreAbove R k (inside es)
  above_inside k [] a = tt
  above_inside k (e ∷ es) a = elim (p e.0) as (λ b. AreAbove R k (cond b (e ∷ inside es) (inside es))) [ true ↦ (a.0, above_inside k es a.1) | false ↦ above_inside k es a.1 ]

  pub inside_insert : ((x y : K) → R x y ≡ Equal → p x ≡ p y) → (es : List (K × X)) (k : K) (v : X) → Rise R es → p k ≡ true → inside (insert_entry R es k v) ≡ insert_entry R (inside es) k v
  unfolding IsStrictlySortedBy
  inside_insert alike [] k v h here = ap (λ b. cond b ((k, v) ∷ []) []) here
  inside_insert alike (e ∷ es) k v h here = by (inside_insert alike es k v h.1 here) (R k e.0) refl (p e.0) refl
    where
      by : inside (insert_entry R es k v) ≡ insert_entry R (inside es) k v → (r : Ordering) → R k e.0 ≡ r → (b : Bool) → p e.0 ≡ b → inside (match_ordering r ((k, v) ∷ e ∷ es) ((e.0, v) ∷ es) (e ∷ insert_entry R es k v)) ≡ insert_entry R (cond b (e ∷ inside es) (inside es)) k v
      by rest Less is true there = (λ i. cond (here i) ((k, v) ∷ cond (there i) (e ∷ inside es) (inside es)) (cond (there i) (e ∷ inside es) (inside es)))
          ∙ sym (front k v (e ∷ inside es) (is, above_inside k es (above_more k e.0 es is h.0)))
      by rest Less is false there = (λ i. cond (here i) ((k, v) ∷ cond (there i) (e ∷ inside es) (inside es)) (cond (there i) (e ∷ inside es) (inside es)))
          ∙ sym (front k v (inside es) (above_inside k es (above_more k e.0 es is h.0)))
      by rest Equal is true there = ap (λ b. cond b ((e.0, v) ∷ inside es) (inside es)) there ∙ sym (ap (λ r. match_ordering r ((k, v) ∷ e ∷ inside es) ((e.0, v) ∷ inside es) (e ∷ insert_entry R (inside es) k v)) is)
      by rest Equal is false there = absurd (true≢false (sym here ∙ alike k e.0 is ∙ there))
      by rest Greater is true there = ap (λ b. cond b (e ∷ inside (insert_entry R es k v)) (inside (insert_entry R es k v))) there ∙ ap (λ l. e ∷ l) rest
          ∙ sym (ap (λ r. match_ordering r ((k, v) ∷ e ∷ inside es) ((e.0, v) ∷ inside es) (e ∷ insert_entry R (inside es) k v)) is)
      by rest Greater is false there = ap (λ b. cond b (e ∷ inside (insert_entry R es k v)) (inside (insert_entry R es k v))) there ∙ rest

module _ {K X : Type 0} (p : K → Bool) where
  abbrev kept : List (K × X) → List (K × X)
  kept = filter (λ e. p e.0)

  pub inside_remove : (test : K → Bool) → ((k : K) → test k ≡ true → p k ≡ true) → (es : List (K × X)) → kept (remove_entry test es) ≡ remove_entry test (kept es)
  inside_remove test passes [] = refl
  inside_remove test passes (e ∷ es) = by (inside_remove test passes es) (test e.0) refl (p e.0) refl
    where
      by : kept (remove_entry test es) ≡ remove_entry test (kept es) → (t : Bool) → test e.0 ≡ t → (b : Bool) → p e.0 ≡ b → kept (cond t es (e ∷ remove_entry test es)) ≡ remove_entry test (cond b (e ∷ kept es) (kept es))
      by rest true is true there = sym (ap (λ t. cond t (kept es) (e ∷ remove_entry test (kept es))) is)
      by rest true is false there = absurd (true≢false (sym (passes e.0 is) ∙ there))
      by rest false is true there = ap (λ b. cond b (e ∷ kept (remove_entry test es)) (kept (remove_entry test es))) there ∙ ap (λ l. e ∷ l) rest ∙ sym (ap (λ t. cond t (kept es) (e ∷ remove_entry test (kept es))) is)
      by rest false is false there = ap (λ b. cond b (e ∷ kept (remove_entry test es)) (kept (remove_entry test es))) there ∙ rest

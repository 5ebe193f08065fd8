-- Maps without a key in common that are put together in either order, and maps of which a part is taken out.
use Rattle.std.proofs.Common.{◌≡◌, ◌∙◌, refl, sym, ap, Bool, true, false, not, cond, List, [], ◌∷◌, Option, Some, None, filter, is_some}
use Rattle.std.specs.Cmp.{IsTotalOrder}
use Rattle.std.specs.BTreeMap.{insert_entry, is_at}
use Rattle.std.specs.List.Sorted.{IsStrictlySortedBy}
use Rattle.std.specs.Map.{lookup, keys_of}
use Rattle.std.specs.Option.{option_or}
use Rattle.std.specs.declared.cmp.Ordering.{Ordering}
use Rattle.std.proofs.lemmas.Cmp.{eq_by_cmp_equiv}
use Rattle.std.proofs.lemmas.Map.{lookup-none}
use Rattle.std.proofs.lemmas.Map.Entries.{none_past_head, lookup-filter-keys}
use Rattle.std.proofs.lemmas.Map.Keys.{IsDistinct-from_sorted}
use Rattle.std.proofs.lemmas.Map.Lookups.{CmpEqualImpliesEq}
use Rattle.committed_log.proofs.Maps.{Rise, Rise-filter, lookup-insert_entry}
use Rattle.committed_log.proofs.Undo.{equal_is}
use Rattle.region_state.specs.State.{united, outside}
use Rattle.region_state.proofs.Folds.{same_lists}
use Rattle.region_state.proofs.Settling.{united_rise}

-- one of two look-ups has nothing
turned_or : {X : Type 0} (a b : Option X) → b ≡ cond (not (is_some a)) b None → option_or a b ≡ option_or b a
turned_or None None is = refl
turned_or None (Some x) is = refl
turned_or (Some x) b is = ap (option_or (Some x)) is ∙ sym (ap (λ c. option_or c (Some x)) is)

-- what is left where a part is taken out
left_of : {X : Type 0} (p : Bool) (x : Option X) → cond (not (is_some (cond p x None))) x None ≡ cond (not p) x None
left_of true None = refl
left_of true (Some x) = refl
left_of false x = refl

module _ {K : Type 0} {R : K → K → Ordering} (exact : CmpEqualImpliesEq R) where
  at_key : (t : K → Bool) (q k : K) → is_at (R q) k ≡ true → t k ≡ t q
  at_key t q k is = ap t (sym (exact q k (equal_is (R q k) is)))

module _ {K X : Type 0} {R : K → K → Ordering} (o : IsTotalOrder R) where
  abbrev look : List (K × X) → K → Option X
  look es q = lookup (is_at (R q)) es

  rest_rises : (e : K × X) (es : List (K × X)) → Rise R (e ∷ es) → Rise R es
  unfolding IsStrictlySortedBy
  rest_rises e es rise = rise.1

  -- no later entry is found under the key of the first
  past : (q : K) (e : K × X) (es : List (K × X)) → Rise R (e ∷ es) → is_at (R q) e.0 ≡ true → look es q ≡ None
  past q e es rise is = lookup-none (is_at (R q)) es (none_past_head (eq_by_cmp_equiv o) q e es (IsDistinct-from_sorted R (keys_of (e ∷ es)) rise) is)

  pub united_look : (es more : List (K × X)) → Rise R more → (q : K) → look (united R es more) q ≡ option_or (look more q) (look es q)
  united_look es [] rise q = refl
  united_look es (e ∷ more) rise q = united_look (insert_entry R es e.0 e.1) more (rest_rises e more rise) q ∙ ap (option_or (look more q)) (lookup-insert_entry o es e.0 e.1 q) ∙ by (is_at (R q) e.0) refl
    where
      by : (b : Bool) → is_at (R q) e.0 ≡ b → option_or (look more q) (cond (is_at (R q) e.0) (Some e.1) (look es q)) ≡ option_or (cond (is_at (R q) e.0) (Some e.1) (look more q)) (look es q)
      by true is = ap (λ m. option_or m (cond (is_at (R q) e.0) (Some e.1) (look es q))) (past q e more rise is) ∙ ap (λ b. cond b (Some e.1) (look es q)) is ∙ sym (ap (λ b. option_or (cond b (Some e.1) (look more q)) (look es q)) is)
      by false is = ap (λ b. option_or (look more q) (cond b (Some e.1) (look es q))) is ∙ sym (ap (λ b. option_or (cond b (Some e.1) (look more q)) (look es q)) is)

  module _ (exact : CmpEqualImpliesEq R) where
    kept : (t : K → Bool) (q : K) (es : List (K × X)) → look (filter (λ (e : K × X). t e.0) es) q ≡ cond (t q) (look es q) None
    kept t q es = lookup-filter-keys (is_at (R q)) t (t q) (at_key exact t q) es

    outside_look : (others es : List (K × X)) (q : K) → look (outside R others es) q ≡ cond (not (is_some (look others q))) (look es q) None
    outside_look others es q = kept (λ (k : K). not (is_some (lookup (is_at (R k)) others))) q es

    -- nothing is lost or gained by putting the first into the second
    pub turned_union : (es more : List (K × X)) → Rise R es → Rise R more → outside R more es ≡ es → united R es more ≡ united R more es
    turned_union es more rise rises apart = same_lists o exact (united R es more) (united R more es) (united_rise o es more rise) (united_rise o more es rises)
        (λ q. united_look es more rises q ∙ turned_or (look more q) (look es q) (sym (ap (λ xs. look xs q) apart) ∙ outside_look more es q) ∙ sym (united_look more es rise q))

    -- a map that is put together anew
    pub united_anew : (es : List (K × X)) → Rise R es → united R [] es ≡ es
    unfolding IsStrictlySortedBy
    united_anew es rise = same_lists o exact (united R [] es) es (united_rise o [] es tt) rise (λ q. united_look [] es rise q ∙ or_none (look es q))
      where
        or_none : (x : Option X) → option_or x None ≡ x
        or_none None = refl
        or_none (Some x) = refl

    -- a part by the keys is taken out
    pub outside_part : (p r : K → Bool) → ((k : K) → not (p k) ≡ r k) → (es : List (K × X)) → Rise R es → outside R (filter (λ (e : K × X). p e.0) es) es ≡ filter (λ (e : K × X). r e.0) es
    outside_part p r rest es rise = same_lists o exact (outside R (filter (λ (e : K × X). p e.0) es) es) (filter (λ (e : K × X). r e.0) es)
        (Rise-filter R (λ (e : K × X). not (is_some (lookup (is_at (R e.0)) (filter (λ (e : K × X). p e.0) es)))) es rise) (Rise-filter R (λ (e : K × X). r e.0) es rise)
        (λ q. outside_look (filter (λ (e : K × X). p e.0) es) es q ∙ ap (λ (x : Option X). cond (not (is_some x)) (look es q) None) (kept p q es)
        ∙ left_of (p q) (look es q) ∙ ap (λ b. cond b (look es q) None) (rest q) ∙ sym (kept r q es))

-- The entries of a map in two ranges, united, are those in the range that both make.
use Rattle.std.proofs.Common.{◌≡◌, ◌∙◌, refl, sym, ap, ℤ, Bool, true, false, cond, ◌||◌, List, [], ◌∷◌, Option, Some, None, filter}
use Rattle.std.proofs.lemmas.Int.{ints}
use Rattle.std.proofs.Common.{arith}
use Rattle.std.specs.Cmp.{IsTotalOrder}
use Rattle.std.specs.BTreeMap.{is_at, insert_entry}
use Rattle.std.specs.List.Sorted.{IsStrictlySortedBy}
use Rattle.std.specs.Map.{lookup, keys_of}
use Rattle.std.specs.Option.{option_or}
use Rattle.std.specs.declared.cmp.Ordering.{Ordering}
use Rattle.std.proofs.lemmas.Cmp.{eq_by_cmp_equiv}
use Rattle.std.proofs.lemmas.Map.{lookup-none}
use Rattle.std.proofs.lemmas.Map.Entries.{none_past_head, lookup-filter-keys}
use Rattle.std.proofs.lemmas.Map.Keys.{IsDistinct-from_sorted}
use Rattle.std.proofs.lemmas.Map.Lookups.{CmpEqualImpliesEq}
use Rattle.flash_types.specs.Ranges.{holds}
use Rattle.flash_types.specs.declared.range.HandleRange.{HandleRange}
use Rattle.committed_log.specs.Owned.{only}
use Rattle.committed_log.proofs.Undo.{equal_is}
use Rattle.committed_log.proofs.Maps.{Rise, Rise-filter, lookup-insert_entry}
use Rattle.region_state.specs.State.{united}
use Rattle.region_state.proofs.Folds.{same_lists}
use Rattle.region_state.proofs.Settling.{united_rise}

-- ---- nothing in a range

only_has : (h : ℤ) → holds (only h) h ≡ true
only_has h = grind (arith, ints)

none_behind : {E : Type 0} (b : Bool) (e : E) (es : List E) → cond b (e ∷ es) es ≡ [] → es ≡ []
none_behind true e es none = cc none
none_behind false e es none = none

-- where no handle of a range has an entry
pub none_in : {E : Type 0} (f : E → ℤ) (range : HandleRange) (es : List E) → ((h : ℤ) → holds range h ≡ true → filter (λ e. holds (only h) (f e)) es ≡ []) → filter (λ e. holds range (f e)) es ≡ []
none_in f range [] none = refl
none_in {E} f range (e ∷ es) none = by (holds range (f e)) refl (none_in f range es (λ h inside. none_behind (holds (only h) (f e)) e (filter (λ e. holds (only h) (f e)) es) (none h inside)))
  where
    by : (b : Bool) → holds range (f e) ≡ b → filter (λ e. holds range (f e)) es ≡ [] → cond (holds range (f e)) (e ∷ filter (λ e. holds range (f e)) es) (filter (λ e. holds range (f e)) es) ≡ []
    by false is rest = ap (λ b. cond b (e ∷ filter (λ e. holds range (f e)) es) (filter (λ e. holds range (f e)) es)) is ∙ rest
    by true is rest = absurd (cc (sym (ap (λ b. cond b (e ∷ filter (λ x. holds (only (f e)) (f x)) es) (filter (λ x. holds (only (f e)) (f x)) es)) (only_has (f e))) ∙ none (f e) is))

-- ---- unions

module _ {K X : Type 0} {R : K → K → Ordering} (o : IsTotalOrder R) where
  abbrev look : List (K × X) → K → Option X
  look es q = lookup (is_at (R q)) es

  rest_rises : (e : K × X) (es : List (K × X)) → Rise R (e ∷ es) → Rise R es
  unfolding IsStrictlySortedBy
  rest_rises e es rise = rise.1

  -- no later entry is found under the key of the first
  pub past : (q : K) (e : K × X) (es : List (K × X)) → Rise R (e ∷ es) → is_at (R q) e.0 ≡ true → look es q ≡ None
  past q e es rise is = lookup-none (is_at (R q)) es (none_past_head (eq_by_cmp_equiv o) q e es (IsDistinct-from_sorted R (keys_of (e ∷ es)) rise) is)

  pub united_look : (es more : List (K × X)) → Rise R more → (q : K) → look (united R es more) q ≡ option_or (look more q) (look es q)
  united_look es [] rise q = refl
  united_look es (e ∷ more) rise q = united_look (insert_entry R es e.0 e.1) more (rest_rises e more rise) q ∙ ap (option_or (look more q)) (lookup-insert_entry o es e.0 e.1 q) ∙ by (is_at (R q) e.0) refl
    where
      by : (b : Bool) → is_at (R q) e.0 ≡ b → option_or (look more q) (cond (is_at (R q) e.0) (Some e.1) (look es q)) ≡ option_or (cond (is_at (R q) e.0) (Some e.1) (look more q)) (look es q)
      by true is = ap (λ m. option_or m (cond (is_at (R q) e.0) (Some e.1) (look es q))) (past q e more rise is) ∙ ap (λ b. cond b (Some e.1) (look es q)) is ∙ sym (ap (λ b. option_or (cond b (Some e.1) (look more q)) (look es q)) is)
      by false is = ap (λ b. option_or (look more q) (cond b (Some e.1) (look es q))) is ∙ sym (ap (λ b. option_or (cond b (Some e.1) (look more q)) (look es q)) is)

  both_have : (a b : Bool) (x : Option X) → option_or (cond b x None) (cond a x None) ≡ cond (a || b) x None
  both_have true true None = refl
  both_have true true (Some x) = refl
  both_have true false x = refl
  both_have false true None = refl
  both_have false true (Some x) = refl
  both_have false false x = refl

  -- the entries that pass one of two tests of their keys
  module _ (exact : CmpEqualImpliesEq R) (a b c : K → Bool) (either : (k : K) → (a k || b k) ≡ c k) (es : List (K × X)) (rise : Rise R es) where
    at_key : (t : K → Bool) (q k : K) → is_at (R q) k ≡ true → t k ≡ t q
    at_key t q k is = ap t (sym (exact q k (equal_is (R q k) is)))

    kept : (t : K → Bool) (q : K) → look (filter (λ (e : K × X). t e.0) es) q ≡ cond (t q) (look es q) None
    kept t q = lookup-filter-keys (is_at (R q)) t (t q) (at_key t q) es

    pub united_parts : united R (filter (λ (e : K × X). a e.0) es) (filter (λ (e : K × X). b e.0) es) ≡ filter (λ (e : K × X). c e.0) es
    united_parts = same_lists o exact (united R (filter (λ (e : K × X). a e.0) es) (filter (λ (e : K × X). b e.0) es)) (filter (λ (e : K × X). c e.0) es)
        (united_rise o (filter (λ (e : K × X). a e.0) es) (filter (λ (e : K × X). b e.0) es) (Rise-filter R (λ (e : K × X). a e.0) es rise)) (Rise-filter R (λ (e : K × X). c e.0) es rise)
        (λ q. united_look (filter (λ (e : K × X). a e.0) es) (filter (λ (e : K × X). b e.0) es) (Rise-filter R (λ (e : K × X). b e.0) es rise) q
        ∙ (λ i. option_or (kept b q i) (kept a q i)) ∙ both_have (a q) (b q) (look es q) ∙ ap (λ t. cond t (look es q) None) (either q) ∙ sym (kept c q))

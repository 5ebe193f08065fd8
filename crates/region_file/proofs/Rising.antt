-- Entries that are read in rising order of their keys.
use Rattle.std.proofs.Common.{◌≡◌, ◌∙◌, refl, sym, ap, subst, ℕ, suc, ℤ, Bool, true, false, ◌||◌, cond, List, [], ◌∷◌, ◌++◌, filter, Option, Some, None, slice_index_or, int_lt, int_le, nat_lt, arith}
use Rattle.std.proofs.lemmas.Int.{ints}
use Rattle.std.proofs.lemmas.List.Elements.{All-push, filter-append}
use Rattle.std.specs.BTreeMap.{insert_entry}
use Rattle.std.specs.Cmp.{IsTotalOrder}
use Rattle.std.specs.List.{All}
use Rattle.std.specs.Map.{keys_of}
use Rattle.std.specs.Ordering.{int_cmp, nat_cmp, match_ordering, ordering_reverse, ordering_then}
use Rattle.std.specs.declared.cmp.Ordering.{Ordering}
use Rattle.std.specs.declared.cmp.Ordering.TheVariants.{Less, Equal, Greater}
use Rattle.committed_log.specs.Store.{value_cmp}
use Rattle.region_file.specs.Families.{may_follow, may_start, is_above}
use Rattle.region_file.specs.Regions.{may_be}

-- a key above all others goes to the end
pub insert_last : {K X : Type 0} (R : K → K → Ordering) (es : List (K × X)) (k : K) (v : X) → All (λ q. R k q ≡ Greater) (keys_of es) → insert_entry R es k v ≡ es ++ (k, v) ∷ []
insert_last R [] k v all = refl
insert_last R (e ∷ es) k v all = ap (λ r. match_ordering r ((k, v) ∷ e ∷ es) ((e.0, v) ∷ es) (e ∷ insert_entry R es k v)) (all 0 k (omega arith))
    ∙ ap (λ rest. e ∷ rest) (insert_last R es k v (λ i d less. all (suc i) d (omega (arith, less))))

-- a key may stand behind the last one
abbrev pub After : {K : Type 0} → (K → K → Ordering) → Option K → K → Type 0
After R None k = Unit {0}
After R (Some last) k = R k last ≡ Greater

-- each key that may stand behind the last one is above all keys
abbrev pub UpTo : {K X : Type 0} → (K → K → Ordering) → Option K → List (K × X) → Type 0
UpTo {K} R last es = (k : K) → After R last k → All (λ q. R k q ≡ Greater) (keys_of es)

pub none_yet : {K X : Type 0} (R : K → K → Ordering) (es : List (K × X)) → es ≡ [] → UpTo R None es
none_yet R es none = subst (UpTo R None) (sym none) (λ k after i d less. absurd (omega (arith, less)))

module _ {K : Type 0} {R : K → K → Ordering} (o : IsTotalOrder R) where
  turned : (k l : K) → R k l ≡ Greater → R l k ≡ Less
  turned k l e = o.antisymm l k ∙ ap ordering_reverse e

  turned_back : (k l : K) → R l k ≡ Less → R k l ≡ Greater
  turned_back k l e = o.antisymm k l ∙ ap ordering_reverse e

  greater : (k l m : K) → R k l ≡ Greater → R l m ≡ Greater → R k m ≡ Greater
  greater k l m a b = turned_back k m (o.trans m l k (turned l m b) (turned k l a))

module _ {K X : Type 0} {R : K → K → Ordering} (o : IsTotalOrder R) where
  keys_push : (es : List (K × X)) (k : K) (v : X) → keys_of (es ++ (k, v) ∷ []) ≡ keys_of es ++ k ∷ []
  keys_push [] k v = refl
  keys_push (e ∷ es) k v = ap (λ ks. e.0 ∷ ks) (keys_push es k v)

  pub one_more_key : (last : Option K) (es new : List (K × X)) (key : K) (v : X) → UpTo R last es → After R last key → new ≡ es ++ (key, v) ∷ [] → UpTo R (Some key) new
  one_more_key last es new key v up after is = subst (UpTo R (Some key)) (sym is) (λ k above. subst (All (λ q. R k q ≡ Greater)) (sym (keys_push es key v))
      (All-push (λ q. R k q ≡ Greater) (keys_of es) key (λ i d less. greater o k key (slice_index_or (keys_of es) i d) above (up key after i d less)) above))

-- ---- what the tests of the reading say

handle_above : (a b : ℤ) → int_lt b a ≡ true → int_cmp a b ≡ Greater
handle_above a b e = grind (arith, ints)

number_above : (a b : ℕ) → nat_lt b a ≡ true → nat_cmp a b ≡ Greater
number_above a b e = grind arith

pub after_handle : (last : Option ℤ) (h : ℤ) → is_above last h ≡ true → After int_cmp last h
after_handle None h is = tt
after_handle (Some last) h is = handle_above h last is

pub after_id : (last : Option ℕ) (id : ℕ) → may_be last id ≡ true → After nat_cmp last id
after_id None id is = tt
after_id (Some last) id is = number_above id last is

same_or_above : (a b : ℤ) → int_le b a ≡ true → int_lt b a ≡ false → int_cmp a b ≡ Equal
same_or_above a b le lt = grind (arith, ints)

pub after_key : (last : Option (ℤ × ℕ)) (h : ℤ) (start : ℕ) → may_follow last h ≡ true → may_start last h start ≡ true → After value_cmp last (h, start)
after_key None h start follows starts = tt
after_key (Some last) h start follows starts = by (int_lt last.0 h) refl starts
  where
    by : (b : Bool) → int_lt last.0 h ≡ b → (b || nat_lt last.1 start) ≡ true → ordering_then (int_cmp h last.0) (nat_cmp start last.1) ≡ Greater
    by true above starts = ap (λ r. ordering_then r (nat_cmp start last.1)) (handle_above h last.0 above)
    by false same starts = ap (λ r. ordering_then r (nat_cmp start last.1)) (same_or_above h last.0 follows same) ∙ number_above start last.1 starts

-- entries that pass a test, and one more
pub all_pass : {E : Type 0} (p : E → Bool) (es new : List E) (e : E) → filter p es ≡ es → p e ≡ true → new ≡ es ++ e ∷ [] → filter p new ≡ new
all_pass p es new e all one is = ap (filter p) is ∙ filter-append p es (e ∷ []) ∙ (λ i. all i ++ cond (one i) (e ∷ []) []) ∙ sym is

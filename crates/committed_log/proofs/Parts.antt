-- The first entry of a map from a handle on.
use Rattle.std.proofs.Common.{◌≡◌, ◌∙◌, refl, sym, ap, subst, ℕ, zero, suc, ℤ, true, false, true≢false, List, [], ◌∷◌, ◌++◌, Option, Some, None, IsSome, int_le, arith}
use Rattle.std.proofs.lemmas.Int.{ints}
use Rattle.std.specs.BTreeMap.{BTreeMap, get}
use Rattle.std.specs.BTreeMap.Range.{IsRangeOf, IsEntryInRange, IsInRange, IsLeBy}
use Rattle.std.specs.Option.{IfSome}
use Rattle.std.specs.List.{slice_get}
use Rattle.std.specs.declared.ops.Bound.{Bound}
use Rattle.std.specs.declared.ops.Bound.TheVariants.{Included, Unbounded}
use Rattle.std.specs.declared.cmp.Ordering.{Ordering}
use Rattle.std.specs.declared.cmp.Ordering.TheVariants.{Less, Equal, Greater}
use Rattle.std.specs.Ordering.{int_cmp, nat_cmp, is_gt, is_lt, ordering_then}
use Rattle.flash_types.specs.Ranges.{holds, is_below}
use Rattle.committed_log.specs.Lows.{IsLastBelow}
use Rattle.committed_log.specs.Store.{value_cmp}
use Rattle.committed_log.proofs.Faults.{both_true}

module _ {K X : Type 0} (cmp : K → K → Ordering) (lo hi : Bound K) (m : BTreeMap K X) (r : List (K × X)) (is : IsRangeOf cmp lo hi m r) where
  module _ (k : K) (v : X) (rest : List (K × X)) (steps : r ≡ (k, v) ∷ rest) where
    pub first_there : IsSome (get cmp m k)
    first_there = subst (λ (o : Option X). IsSome o) (sym ((subst (λ (xs : List (K × X)). IfSome (slice_get xs 0) (IsEntryInRange cmp lo hi m)) steps is.1).1)) refl

    pub first_least : (q : K) → IsInRange cmp lo hi q → IsSome (get cmp m q) → IsLeBy cmp k q
    first_least q within there = subst (λ (xs : List (K × X)). IfSome (slice_get xs 0) (λ e. IsLeBy cmp e.0 q)) steps (is.2 q within there)

  pub none_there : r ≡ [] → (q : K) → IsInRange cmp lo hi q → get cmp m q ≡ None
  none_there none q within = is.5 none q within

le_gt : (a b : ℤ) → int_le a b ≡ true → is_gt (int_cmp a b) ≡ false
le_gt a b e = grind (arith, ints)

gt_le : (a b : ℤ) → is_gt (int_cmp a b) ≡ false → int_le a b ≡ true
gt_le a b e = grind (arith, ints)

past_end : (k h : ℤ) (high : Option ℤ) → is_below k high ≡ false → is_below h high ≡ true → int_le k h ≡ true → ⊥
past_end k h None past below le = true≢false past
past_end k h (Some high) past below le = grind (arith, ints)

zero_least : (s : ℕ) → is_gt (nat_cmp 0 s) ≡ false
zero_least zero = refl
zero_least (suc s) = grind arith

pair_le : (a b : ℤ) (s : ℕ) → int_le a b ≡ true → is_gt (value_cmp (a, 0) (b, s)) ≡ false
pair_le a b s le = elim (int_cmp a b) as (λ o. int_cmp a b ≡ o → is_gt (ordering_then o (nat_cmp 0 s)) ≡ false) [
  | Less ↦ λ is. refl
  | Equal ↦ λ is. zero_least s
  | Greater ↦ λ is. absurd (true≢false (sym (ap is_gt is) ∙ le_gt a b le))
] refl

pair_gt : (a b : ℤ) (t s : ℕ) → is_gt (value_cmp (a, t) (b, s)) ≡ false → int_le a b ≡ true
pair_gt a b t s = elim (int_cmp a b) as (λ o. int_cmp a b ≡ o → is_gt (ordering_then o (nat_cmp t s)) ≡ false → int_le a b ≡ true) [
  | Less ↦ λ is e. gt_le a b (ap is_gt is)
  | Equal ↦ λ is e. gt_le a b (ap is_gt is)
  | Greater ↦ λ is e. absurd (true≢false e)
] refl

-- no later handle of a range has an entry, where the first from its low end on lies past its high end
module _ {X : Type 0} (m : BTreeMap ℤ X) (l low : ℤ) (high : Option ℤ) (same : l ≡ low) (r : List (ℤ × X)) (is : IsRangeOf int_cmp (Included l) Unbounded m r) where
  from_low : (h : ℤ) → holds (record { low = low; high = high }) h ≡ true → IsInRange int_cmp (Included l) Unbounded h
  from_low h inside = (le_gt l h (ap (λ a. int_le a h) same ∙ (both_true (int_le low h) (is_below h high) inside).0), tt)

  pub none_behind : (k : ℤ) (v : X) (rest : List (ℤ × X)) → r ≡ (k, v) ∷ rest → is_below k high ≡ false → (h : ℤ) → holds (record { low = low; high = high }) h ≡ true → get int_cmp m h ≡ None
  none_behind k v rest steps past h inside = elim (get int_cmp m h) as (λ o. get int_cmp m h ≡ o → o ≡ None) [
    | None ↦ λ there. refl
    | Some x ↦ λ there. absurd (past_end k h high past (both_true (int_le low h) (is_below h high) inside).1 (gt_le k h (first_least int_cmp (Included l) Unbounded m r is k v rest steps h (from_low h inside) (subst (λ (o : Option X). IsSome o) (sym there) refl))))
  ] refl

module _ {X : Type 0} (m : BTreeMap (ℤ × ℕ) X) (l low : ℤ) (high : Option ℤ) (same : l ≡ low) (r : List ((ℤ × ℕ) × X)) (is : IsRangeOf value_cmp (Included (l, 0)) Unbounded m r) where
  pairs_from_low : (h : ℤ) (s : ℕ) → holds (record { low = low; high = high }) h ≡ true → IsInRange value_cmp (Included (l, 0)) Unbounded (h, s)
  pairs_from_low h s inside = (pair_le l h s (ap (λ a. int_le a h) same ∙ (both_true (int_le low h) (is_below h high) inside).0), tt)

  pub no_pair_behind : (k : ℤ) (t : ℕ) (v : X) (rest : List ((ℤ × ℕ) × X)) → r ≡ ((k, t), v) ∷ rest → is_below k high ≡ false → (h : ℤ) (s : ℕ) → holds (record { low = low; high = high }) h ≡ true → get value_cmp m (h, s) ≡ None
  no_pair_behind k t v rest steps past h s inside = elim (get value_cmp m (h, s)) as (λ o. get value_cmp m (h, s) ≡ o → o ≡ None) [
    | None ↦ λ there. refl
    | Some x ↦ λ there. absurd (past_end k h high past (both_true (int_le low h) (is_below h high) inside).1 (pair_gt k h t s (first_least value_cmp (Included (l, 0)) Unbounded m r is (k, t) v rest steps (h, s) (pairs_from_low h s inside) (subst (λ (o : Option X). IsSome o) (sym there) refl))))
  ] refl

  pub no_pair : r ≡ [] → (h : ℤ) (s : ℕ) → holds (record { low = low; high = high }) h ≡ true → get value_cmp m (h, s) ≡ None
  no_pair none h s inside = none_there value_cmp (Included (l, 0)) Unbounded m r is none (h, s) (pairs_from_low h s inside)

-- the last entry that isn't above a handle
lt_le : (k g : ℤ) → is_lt (int_cmp k g) ≡ false → int_le g k ≡ true
lt_le k g e = grind (arith, ints)

module _ (m : BTreeMap ℤ ℕ) (b handle : ℤ) (same : b ≡ handle) (r : List (ℤ × ℕ)) (is : IsRangeOf int_cmp Unbounded (Included b) m r) where
  pub last_below : (k : ℤ) (v : ℕ) (rest : List (ℤ × ℕ)) → r ≡ rest ++ (k, v) ∷ [] → IsLastBelow (get int_cmp m) handle k v
  last_below k v rest steps = record {
    below = ap (int_le k) (sym same) ∙ gt_le k b (is.3 (k, v) rest steps).0.1;
    there = (is.3 (k, v) rest steps).1;
    last = λ g below some. lt_le k g (is.4 (k, v) rest steps g (tt, le_gt g b (ap (int_le g) same ∙ below)) some);
  }

-- Entries in the order of their keys pass the tests of the reading.
use Rattle.std.proofs.Common.{◌≡◌, refl, ap, subst, ℕ, ℤ, Bool, true, ◌||◌, List, [], ◌∷◌, filter, Option, Some, None, int_lt, int_le, nat_lt, arith}
use Rattle.std.proofs.lemmas.Int.{ints}
use Rattle.std.proofs.lemmas.List.Elements.{filter_passes}
use Rattle.std.specs.List.{All}
use Rattle.std.specs.List.Sorted.{IsStrictlySortedBy}
use Rattle.std.specs.Map.{keys_of}
use Rattle.std.specs.Ordering.{int_cmp, nat_cmp, ordering_then}
use Rattle.std.specs.declared.cmp.Ordering.{Ordering}
use Rattle.std.specs.declared.cmp.Ordering.TheVariants.{Less, Equal, Greater}
use Rattle.committed_log.specs.Store.{value_cmp}
use Rattle.committed_log.proofs.Faults.{or_second}
use Rattle.region_file.specs.Families.{may_follow, may_start, is_above}
use Rattle.region_file.specs.Regions.{may_be}

-- a key is above the last one
abbrev pub IsAbove : {K : Type 0} → (K → K → Ordering) → Option K → K → Type 0
IsAbove R None k = Unit {0}
IsAbove R (Some last) k = R last k ≡ Less

-- the keys rise from the last one on
abbrev pub RiseFrom : {K X : Type 0} → (K → K → Ordering) → Option K → List (K × X) → Type 0
RiseFrom R last [] = Unit {0}
RiseFrom R last (e ∷ es) = IsAbove R last e.0 × RiseFrom R (Some e.0) es

module _ {K X : Type 0} (R : K → K → Ordering) where
  rise_behind : (e : K × X) (es : List (K × X)) → IsStrictlySortedBy R (keys_of (e ∷ es)) → RiseFrom R (Some e.0) es
  unfolding IsStrictlySortedBy
  rise_behind e [] sorted = tt
  rise_behind e (f ∷ es) sorted = (sorted.0.0, rise_behind f es sorted.1)

  pub rise : (es : List (K × X)) → IsStrictlySortedBy R (keys_of es) → RiseFrom R None es
  rise [] sorted = tt
  rise (e ∷ es) sorted = (tt, rise_behind e es sorted)

-- ---- what the tests of the reading say

pub handle_below : (a b : ℤ) → int_cmp a b ≡ Less → int_lt a b ≡ true
handle_below a b e = grind (arith, ints)

below_le : (a b : ℤ) → int_cmp a b ≡ Less → int_le a b ≡ true
below_le a b e = grind (arith, ints)

same_le : (a b : ℤ) → int_cmp a b ≡ Equal → int_le a b ≡ true
same_le a b e = grind (arith, ints)

number_below : (a b : ℕ) → nat_cmp a b ≡ Less → nat_lt a b ≡ true
number_below a b e = grind arith

pub handle_is_above : (last : Option ℤ) (h : ℤ) → IsAbove int_cmp last h → is_above last h ≡ true
handle_is_above None h above = refl
handle_is_above (Some last) h above = handle_below last h above

pub id_may_be : (last : Option ℕ) (id : ℕ) → IsAbove nat_cmp last id → may_be last id ≡ true
id_may_be None id above = refl
id_may_be (Some last) id above = number_below last id above

pub key_may_follow : (last : Option (ℤ × ℕ)) (key : ℤ × ℕ) → IsAbove value_cmp last key → may_follow last key.0 ≡ true
key_may_follow None key above = refl
key_may_follow (Some last) key above = by (int_cmp last.0 key.0) refl above
  where
    by : (r : Ordering) → int_cmp last.0 key.0 ≡ r → ordering_then r (nat_cmp last.1 key.1) ≡ Less → int_le last.0 key.0 ≡ true
    by Less is above = below_le last.0 key.0 is
    by Equal is above = same_le last.0 key.0 is
    by Greater is above = absurd (cc above)

pub key_may_start : (last : Option (ℤ × ℕ)) (key : ℤ × ℕ) → IsAbove value_cmp last key → may_start last key.0 key.1 ≡ true
key_may_start None key above = refl
key_may_start (Some last) key above = by (int_cmp last.0 key.0) refl above
  where
    by : (r : Ordering) → int_cmp last.0 key.0 ≡ r → ordering_then r (nat_cmp last.1 key.1) ≡ Less → (int_lt last.0 key.0 || nat_lt last.1 key.1) ≡ true
    by Less is above = ap (λ b. b || nat_lt last.1 key.1) (handle_below last.0 key.0 is)
    by Equal is above = or_second (int_lt last.0 key.0) (nat_lt last.1 key.1) (number_below last.1 key.1 above)
    by Greater is above = absurd (cc above)

-- entries of which a test leaves out none pass it
pub all_passed : {E : Type 0} (p : E → Bool) (es : List E) → filter p es ≡ es → All (λ e. p e ≡ true) es
all_passed p es same = subst (All (λ e. p e ≡ true)) same (filter_passes p es)

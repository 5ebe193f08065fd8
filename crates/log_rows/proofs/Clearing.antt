-- Taking out the entries of a range of handles.
use Rattle.std.proofs.Common.{◌≡◌, ◌∙◌, refl, ap, ℕ, ℤ, Bool, true, false, cond, not, List, [], ◌∷◌, filter, Option, Some, None, ◌&&◌, int_le, int_lt, arith, ◌+◌, ◌<◌}
use Rattle.std.specs.Prelude.{IsSome}
use Rattle.std.specs.Option.{is_some}
use Rattle.std.specs.BTreeMap.{is_at}
use Rattle.std.specs.Map.{remove_entry}
use Rattle.std.specs.Ordering.{is_le, int_cmp}
use Rattle.committed_log.proofs.Within.{within-remove}
use Rattle.std.proofs.lemmas.Int.{ints}
use Rattle.flash_types.specs.Ranges.{holds}
use Rattle.flash_types.specs.declared.range.HandleRange.{HandleRange}
use Rattle.committed_log.specs.Store.{value_cmp}

-- where none of the entries is in the part, all of them are outside
pub all_outside : {X : Type 0} (p : X → Bool) (xs : List X) → filter p xs ≡ [] → filter (λ x. not (p x)) xs ≡ xs
all_outside p [] h = refl
all_outside p (x ∷ xs) h =
    elim (p x) as (λ b. p x ≡ b → cond b (x ∷ filter p xs) (filter p xs) ≡ [] → cond (not b) (x ∷ filter (λ y. not (p y)) xs) (filter (λ y. not (p y)) xs) ≡ x ∷ xs) [
      | true ↦ λ is none. absurd cc
      | false ↦ λ is none. ap (λ rest. x ∷ rest) (all_outside p xs none)
    ] refl h

pub none_in : {X : Type 0} (p : X → Bool) → ((x : X) → p x ≡ false) → (xs : List X) → filter p xs ≡ []
none_in p out [] = refl
none_in p out (x ∷ xs) = ap (λ b. cond b (x ∷ filter p xs) (filter p xs)) (out x) ∙ none_in p out xs

pub same_in : {X : Type 0} (p q : X → Bool) → ((x : X) → p x ≡ q x) → (xs : List X) → filter p xs ≡ filter q xs
same_in p q same [] = refl
same_in p q same (x ∷ xs) = ap (λ b. cond b (x ∷ filter p xs) (filter p xs)) (same x) ∙ ap (λ rest. cond (q x) (x ∷ rest) rest) (same_in p q same xs)

-- a range that ends where it begins, or before, holds nothing
pub backward : (range : HandleRange) (high : ℤ) → range.high ≡ Some high → int_le high range.low ≡ true → (h : ℤ) → holds range h ≡ false
backward range high is le h = rw is (grind (arith, ints, le))

-- the keys from a handle's first to another's first are those of the handles between
pub between_handles : (low high : ℤ) (key : ℤ × ℕ) → (is_le (value_cmp (low, 0) key) && not (is_le (value_cmp (high, 0) key))) ≡ (int_le low key.0 && int_lt key.0 high)
between_handles low high key = grind (arith, ints)

-- what is found is taken out
pub shorter : {X : Type 0} (taken found : Option X) (n m : ℕ) → taken ≡ found → n + cond (is_some taken) 1 0 ≡ m → IsSome found → n < m
shorter None found n m same sum some = absurd (cc (same, some))
shorter (Some x) found n m same sum some = omega (arith, sum)

-- taking out an entry of the range leaves those outside as they are
pub outside_kept : {K X : Type 0} (range : HandleRange) (of : K → ℤ) (test : K → Bool) (key : K) → ((k : K) → test k ≡ true → of k ≡ of key) → holds range (of key) ≡ true → (old new : List (K × X)) → new ≡ remove_entry test old
    → filter (λ e. not (holds range (of e.0))) new ≡ filter (λ e. not (holds range (of e.0))) old
outside_kept range of test key alike inside old new taken =
    ap (filter (λ e. not (holds range (of e.0)))) taken ∙ within-remove (λ k. not (holds range (of k))) test (λ k at. ap (λ h. not (holds range h)) (alike k at) ∙ ap not inside) old

pub same_handle : (h k : ℤ) → is_at (int_cmp h) k ≡ true → k ≡ h
same_handle h k at = grind (arith, ints)

pub same_first : (key k : ℤ × ℕ) → is_at (value_cmp key) k ≡ true → k.0 ≡ key.0
same_first key k at = grind (arith, ints)

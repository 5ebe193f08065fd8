-- What is applied, where one position more is.
use Rattle.std.proofs.Common.{◌≡◌, ◌≢◌, ◌∙◌, ◌⊎◌, inl, inr, ℕ, zero, suc, ◌+◌, ◌-◌, ◌<◌, ◌≤◌, max, Bool, true, false, List, [], ◌∷◌, ◌++◌, length, take, refl, sym, ap, subst, arith, slice_index_or}
use Rattle.std.specs.Prelude.{◌&&◌, ◌||◌, ◌==◌, not}
use Rattle.std.specs.List.{AllByRecursion, AllPairs}
use Rattle.std.proofs.lemmas.Bool.{eqb-true, or_left, or_right, and_right, and_left, false_from_ne_true, cases_eq, not_from_true}
use Rattle.std.proofs.lemmas.List.{take-append-le}
use Rattle.std.proofs.lemmas.List.Quantifiers.{all_pairs_push}
use Rattle.committed_log.specs.Applied.{is_ready, with_position}
use Rattle.committed_log.specs.Log.{Log}
use Rattle.replica_state.specs.Core.{Core, IsHighest, full, opened, upto, is_listed}

same_test : (q p : ℕ) → q ≡ p → (q == p) ≡ true
same_test q p is = grind (arith, is)

other_test : (q p : ℕ) → q ≢ p → (q == p) ≡ false
other_test q p other = false_from_ne_true (q == p) (λ t. other (eqb-true q p t))

listed_at : (xs : List ℕ) (p q : ℕ) → (q == p) ≡ true → is_listed (xs ++ p ∷ []) q ≡ true
listed_at [] p q h = or_left (q == p) false h
listed_at (x ∷ xs) p q h = or_right (q == x) (is_listed (xs ++ p ∷ []) q) (listed_at xs p q h)

listed_other : (xs : List ℕ) (p q : ℕ) → (q == p) ≡ false → is_listed (xs ++ p ∷ []) q ≡ is_listed xs q
listed_other [] p q h = ap (λ (b : Bool). b || false) h
listed_other (x ∷ xs) p q h = ap (λ (b : Bool). (q == x) || b) (listed_other xs p q h)

or_is : (a b : Bool) → (a || b) ≡ true → (a ≡ true) ⊎ (b ≡ true)
or_is true b h = inl refl
or_is false b h = inr h

-- where a set has each number that is listed
listed_passes : (f : ℕ → Bool) (xs : List ℕ) → AllByRecursion (λ (q : ℕ). f q ≡ true) xs → (q : ℕ) → is_listed xs q ≡ true → f q ≡ true
listed_passes f [] all q h = absurd (cc h)
listed_passes f (x ∷ xs) all q h = elim (or_is (q == x) (is_listed xs q) h) [
  | inl here ↦ subst (λ (n : ℕ). f n ≡ true) (sym (eqb-true q x here)) all.0
  | inr there ↦ listed_passes f xs all.1 q there
]

set_parts : (f l : Bool) → (l ≡ true → f ≡ true) → ((f && not l) || l) ≡ f
set_parts true true h = refl
set_parts true false h = refl
set_parts false true h = absurd (cc (h refl))
set_parts false false h = refl

take_all : (k : ℕ) (xs : List ℕ) → length xs ≤ k → take k xs ≡ xs
take_all zero [] le = refl
take_all (suc k) [] le = refl
take_all zero (x ∷ xs) le = absurd (omega (arith, le))
take_all (suc k) (x ∷ xs) le = ap (λ (l : List ℕ). x ∷ l) (take_all k xs (omega (arith, le)))

module _ {X : Type 0} where
  pub all_weaker : (P Q : X → Type 0) → ((x : X) → P x → Q x) → (xs : List X) → AllByRecursion P xs → AllByRecursion Q xs
  all_weaker P Q f [] h = tt
  all_weaker P Q f (x ∷ xs) h = (f x h.0, all_weaker P Q f xs h.1)

  pub all_one_more : (P : X → Type 0) (xs : List X) (x : X) → AllByRecursion P xs → P x → AllByRecursion P (xs ++ x ∷ [])
  all_one_more P [] x all last = (last, tt)
  all_one_more P (y ∷ xs) x all last = (all.0, all_one_more P xs x all.1 last)

  all_at : (P : X → Type 0) (xs : List X) → AllByRecursion P xs → (k : ℕ) (d : X) → k < length xs → P (slice_index_or xs k d)
  all_at P [] all k d less = absurd (omega (arith, less))
  all_at P (x ∷ xs) all zero d less = all.0
  all_at P (x ∷ xs) all (suc k) d less = all_at P xs all.1 k d (omega (arith, less))

  pub pairs_one_more : (R : X → X → Type 0) (xs : List X) (x : X) → AllPairs R xs → AllByRecursion (λ (y : X). R y x) xs → AllPairs R (xs ++ x ∷ [])
  pairs_one_more R xs x pairs last = all_pairs_push R xs x pairs (all_at (λ (y : X). R y x) xs last)

and_is : (a b : Bool) → (a && b) ≡ true → a ≡ true
and_is true b h = refl
and_is false b h = absurd (cc h)

not_is : (a : Bool) → not a ≡ true → a ≡ false
not_is true h = absurd (cc h)
not_is false h = refl

-- a position that is ready isn't applied
pub free_of : (log : Log) (A : ℕ → Bool) (p : ℕ) → is_ready log A p ≡ true → A p ≡ false
free_of log A p ready = not_is (A p) (and_is (not (A p)) _ ready)

-- with the position the set has it
pub has_it : (A : ℕ → Bool) (p : ℕ) → with_position A p p ≡ true
has_it A p = or_left (p == p) (A p) (same_test p p refl)

cases_le : (a b : ℕ) → (a ≤ b) ⊎ (b < a)
cases_le zero b = inl (omega arith)
cases_le (suc a) zero = inr (omega arith)
cases_le (suc a) (suc b) = elim (cases_le a b) [ inl le ↦ inl (omega (arith, le)) | inr less ↦ inr (omega (arith, less)) ]

pub le_or_more : (a b : ℕ) → (a ≤ b) ⊎ (b < a)
le_or_more = cases_le

-- one past the greatest of them, with one position more
pub highest_with : (A : ℕ → Bool) (n p : ℕ) → IsHighest A n → IsHighest (with_position A p) (max n (p + 1))
highest_with A n p is = record { below = below; last = last (cases_le (p + 1) n) is.last }
  where
    below : (q : ℕ) → with_position A p q ≡ true → q < max n (p + 1)
    below q h = elim (or_is (q == p) (A q) h) [
      | inl same ↦ let e : q ≡ p = eqb-true q p same in omega (arith, e)
      | inr old ↦ let less : q < n = is.below q old in omega (arith, less)
    ]

    last : ((p + 1) ≤ n) ⊎ (n < (p + 1)) → (n ≡ 0) ⊎ (A (n - 1) ≡ true) → (max n (p + 1) ≡ 0) ⊎ (with_position A p (max n (p + 1) - 1) ≡ true)
    last (inl le) (inl none) = absurd (omega (arith, le, none))
    last (inl le) (inr old) =
        let e : n ≡ max n (p + 1) = omega (arith, le) in
        inr (subst (λ (m : ℕ). with_position A p (m - 1) ≡ true) e (or_right ((n - 1) == p) (A (n - 1)) old))
    last (inr more) was =
        let e : p ≡ max n (p + 1) - 1 = omega (arith, more) in
        inr (subst (λ (m : ℕ). with_position A p m ≡ true) e (has_it A p))

module _ {G : Type 0} (s : Core G) (applied : AllByRecursion (λ (q : ℕ). full s q ≡ true) s.listed) where
  all_upto_at : (k : ℕ) → length s.listed ≤ k → (q : ℕ) → upto s k q ≡ full s q
  all_upto_at k le q = ap (λ (l : List ℕ). opened s q || is_listed l q) (take_all k s.listed le) ∙ set_parts (full s q) (is_listed s.listed q) (listed_passes (full s) s.listed applied q)

  -- with all that are listed, all that is applied is told
  pub upto_all : (k : ℕ) → length s.listed ≤ k → upto s k ≡ full s
  upto_all k le = λ i q. all_upto_at k le q i

module _ {G : Type 0} (s new : Core G) (applied : AllByRecursion (λ (q : ℕ). full s q ≡ true) s.listed) (p : ℕ) (free : full s p ≡ false) (longer : new.listed ≡ s.listed ++ p ∷ []) (set : full new ≡ with_position (full s) p) where
  full_at : (q : ℕ) → full new q ≡ with_position (full s) p q
  full_at q = ap (λ (f : ℕ → Bool). f q) set

  opened_same : (q : ℕ) → opened new q ≡ opened s q
  opened_same q = ap (λ (l : List ℕ). full new q && not (is_listed l q)) longer ∙ elim (cases_eq q p) [
    | inl same ↦ and_right (full new q) (not (is_listed (s.listed ++ p ∷ []) q)) (not_from_true (is_listed (s.listed ++ p ∷ []) q) (listed_at s.listed p q (same_test q p same)))
        ∙ sym (and_left (full s q) (not (is_listed s.listed q)) (subst (λ (n : ℕ). full s n ≡ false) (sym same) free))
    | inr other ↦ ap (λ (b : Bool). b && not (is_listed (s.listed ++ p ∷ []) q)) (full_at q ∙ ap (λ (b : Bool). b || full s q) (other_test q p (λ e. omega (arith, e, other))))
        ∙ ap (λ (b : Bool). full s q && not b) (listed_other s.listed p q (other_test q p (λ e. omega (arith, e, other))))
  ]

  low_at : (k : ℕ) → k ≤ length s.listed → (q : ℕ) → upto new k q ≡ upto s k q
  low_at k le q = ap (λ (b : Bool). b || is_listed (take k new.listed) q) (opened_same q) ∙ ap (λ (l : List ℕ). opened s q || is_listed l q) (ap (take k) longer ∙ take-append-le k s.listed (p ∷ []) le)

  -- the earlier sets stay
  pub upto_earlier : (k : ℕ) → k ≤ length s.listed → upto new k ≡ upto s k
  upto_earlier k le = λ i q. low_at k le q i

  -- and each that is listed is applied
  pub applied_now : AllByRecursion (λ (q : ℕ). full new q ≡ true) new.listed
  applied_now = subst (AllByRecursion (λ (q : ℕ). full new q ≡ true)) (sym longer) (all_one_more (λ (q : ℕ). full new q ≡ true) s.listed p
      (all_weaker (λ (q : ℕ). full s q ≡ true) (λ (q : ℕ). full new q ≡ true) (λ q h. full_at q ∙ or_right (q == p) (full s q) h) s.listed applied)
      (full_at p ∙ has_it (full s) p))

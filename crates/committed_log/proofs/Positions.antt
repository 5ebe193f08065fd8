-- The least and the last of the positions below a number that pass a test, as the definitions find them.
use Rattle.std.proofs.Common.{◌≡◌, ◌∙◌, refl, sym, ap, subst, ℕ, zero, suc, ◌<◌, Bool, true, false, cond, ◌&&◌, List, [], ◌∷◌, ◌++◌, Option, Some, None, find, filter, fold, true≢false, arith, ◌⊎◌, inl, inr}
use Rattle.std.specs.Option.{option_or}
use Rattle.std.specs.List.{list_all}
use Rattle.committed_log.specs.Applied.{first_numbers, last}

lt_or : (q n : ℕ) → q < suc n → (q < n) ⊎ (q ≡ n)
lt_or q n h = grind arith

pub find_push : (p : ℕ → Bool) (xs : List ℕ) (x : ℕ) → find p (xs ++ x ∷ []) ≡ option_or (find p xs) (cond (p x) (Some x) None)
find_push p [] x = refl
find_push p (y ∷ ys) x = elim (p y) as (λ b. cond b (Some y) (find p (ys ++ x ∷ [])) ≡ option_or (cond b (Some y) (find p ys)) (cond (p x) (Some x) None)) [ true ↦ refl | false ↦ find_push p ys x ]

-- p is the least number below n that passes
pub record IsLeast (t : ℕ → Bool) (n p : ℕ) : Type 0 where
  pub below : p < n
  pub passes : t p ≡ true
  pub first : (q : ℕ) → q < p → t q ≡ false

-- where none is found, none below n passes; what is found is the least that passes
abbrev pub Finds : (ℕ → Bool) → ℕ → Option ℕ → Type 0
Finds t n None = (q : ℕ) → q < n → t q ≡ false
Finds t n (Some p) = IsLeast t n p

pub find_least : (t : ℕ → Bool) (n : ℕ) → Finds t n (find t (first_numbers n))
find_least t zero = λ q h. absurd (omega arith)
find_least t (suc n) = subst (Finds t (suc n)) (sym (find_push t (first_numbers n) n)) (one_more (find t (first_numbers n)) (find_least t n))
  where
    here : (b : Bool) → t n ≡ b → ((q : ℕ) → q < n → t q ≡ false) → Finds t (suc n) (cond b (Some n) None)
    here true e none = record { below = omega arith; passes = e; first = none }
    here false e none = λ q h. elim (lt_or q n h) [ inl less ↦ none q less | inr same ↦ ap t same ∙ e ]

    one_more : (o : Option ℕ) → Finds t n o → Finds t (suc n) (option_or o (cond (t n) (Some n) None))
    one_more None none = here (t n) refl none
    one_more (Some p) least = record { below = omega (arith, least.below); passes = least.passes; first = least.first }

all_push : (t : ℕ → Bool) (xs : List ℕ) (x : ℕ) → list_all t (xs ++ x ∷ []) ≡ (list_all t xs && t x)
all_push t [] x = elim (t x) as (λ b. (b && true) ≡ b) [ true ↦ refl | false ↦ refl ]
all_push t (y ∷ ys) x = elim (t y) as (λ b. (b && list_all t (ys ++ x ∷ [])) ≡ ((b && list_all t ys) && t x)) [ true ↦ all_push t ys x | false ↦ refl ]

pub all_first : (t : ℕ → Bool) (n : ℕ) → ((q : ℕ) → q < n → t q ≡ true) → list_all t (first_numbers n) ≡ true
all_first t zero h = refl
all_first t (suc n) h = all_push t (first_numbers n) n ∙ ap (λ b. b && t n) (all_first t n (λ q l. h q (omega (arith, l)))) ∙ h n (omega arith)

-- ---- by what is known of the least

not_both : (t : ℕ → Bool) (q : ℕ) → t q ≡ true → t q ≡ false → ⊥
not_both t q a b = true≢false (sym a ∙ b)

order : (a b : ℕ) → (a < b) ⊎ ((a ≡ b) ⊎ (b < a))
order a b = grind arith

-- the least is found
pub find_is : (t : ℕ → Bool) (n p : ℕ) → IsLeast t n p → find t (first_numbers n) ≡ Some p
find_is t n p least = by (find t (first_numbers n)) (find_least t n)
  where
    same : (q : ℕ) → IsLeast t n q → q ≡ p
    same q other = elim (order q p) [
      | inl less ↦ absurd (not_both t q other.passes (least.first q less))
      | inr more ↦ elim more [ inl e ↦ e | inr less ↦ absurd (not_both t p least.passes (other.first p less)) ]
    ]

    by : (o : Option ℕ) → Finds t n o → o ≡ Some p
    by None none = absurd (not_both t p least.passes (none p least.below))
    by (Some q) other = ap (λ x. Some x) (same q other)

pub find_none : (t : ℕ → Bool) (n : ℕ) → ((q : ℕ) → q < n → t q ≡ false) → find t (first_numbers n) ≡ None
find_none t n none = by (find t (first_numbers n)) (find_least t n)
  where
    by : (o : Option ℕ) → Finds t n o → o ≡ None
    by None e = refl
    by (Some q) least = absurd (not_both t q least.passes (none q least.below))

-- what is found is the least
pub found_is : (t : ℕ → Bool) (n p : ℕ) → find t (first_numbers n) ≡ Some p → IsLeast t n p
found_is t n p e = subst (Finds t n) e (find_least t n)

pub found_none : (t : ℕ → Bool) (n : ℕ) → find t (first_numbers n) ≡ None → (q : ℕ) → q < n → t q ≡ false
found_none t n e = subst (Finds t n) e (find_least t n)

-- two tests that agree below n
pub find_same : (s t : ℕ → Bool) (n : ℕ) → ((q : ℕ) → q < n → s q ≡ t q) → find s (first_numbers n) ≡ find t (first_numbers n)
find_same s t n same = sym (by (find s (first_numbers n)) (find_least s n))
  where
    by : (o : Option ℕ) → Finds s n o → find t (first_numbers n) ≡ o
    by None none = find_none t n (λ q less. sym (same q less) ∙ none q less)
    by (Some p) least = find_is t n p (record { below = least.below; passes = sym (same p least.below) ∙ least.passes; first = λ q less. sym (same q (omega (arith, less, least.below))) ∙ least.first q less })

-- ---- the last

-- p is the greatest number below n that passes
pub record IsGreatest (t : ℕ → Bool) (n p : ℕ) : Type 0 where
  pub below : p < n
  pub passes : t p ≡ true
  pub later : (q : ℕ) → p < q → q < n → t q ≡ false

abbrev pub Ends : (ℕ → Bool) → ℕ → Option ℕ → Type 0
Ends t n None = (q : ℕ) → q < n → t q ≡ false
Ends t n (Some p) = IsGreatest t n p

pub fold_push : {A B : Type 0} (f : B → A → B) (a : B) (xs : List A) (x : A) → fold f a (xs ++ x ∷ []) ≡ f (fold f a xs) x
fold_push f a [] x = refl
fold_push f a (y ∷ ys) x = fold_push f (f a y) ys x

filter_more : (t : ℕ → Bool) (xs : List ℕ) (x : ℕ) → filter t (xs ++ x ∷ []) ≡ cond (t x) (filter t xs ++ x ∷ []) (filter t xs)
filter_more t [] x = refl
filter_more t (y ∷ ys) x = elim (t y) as (λ b. cond b (y ∷ filter t (ys ++ x ∷ [])) (filter t (ys ++ x ∷ [])) ≡ cond (t x) (cond b (y ∷ filter t ys) (filter t ys) ++ x ∷ []) (cond b (y ∷ filter t ys) (filter t ys))) [
  | true ↦ ap (λ rest. y ∷ rest) (filter_more t ys x) ∙ pushed (t x)
  | false ↦ filter_more t ys x
]
  where
    pushed : (b : Bool) → (y ∷ cond b (filter t ys ++ x ∷ []) (filter t ys)) ≡ cond b (y ∷ filter t ys ++ x ∷ []) (y ∷ filter t ys)
    pushed true = refl
    pushed false = refl

last_push : (ps : List ℕ) (p : ℕ) → last (ps ++ p ∷ []) ≡ Some p
last_push ps p = fold_push (λ before p. Some p) None ps p

pub last_ends : (t : ℕ → Bool) (n : ℕ) → Ends t n (last (filter t (first_numbers n)))
last_ends t zero = λ q less. absurd (omega (arith, less))
last_ends t (suc n) = subst (λ ps. Ends t (suc n) (last ps)) (sym (filter_more t (first_numbers n) n)) (by (t n) refl (last_ends t n))
  where
    by : (b : Bool) → t n ≡ b → Ends t n (last (filter t (first_numbers n))) → Ends t (suc n) (last (cond b (filter t (first_numbers n) ++ n ∷ []) (filter t (first_numbers n))))
    by true is rest = subst (Ends t (suc n)) (sym (last_push (filter t (first_numbers n)) n)) (record { below = omega arith; passes = is; later = λ q more less. absurd (omega (arith, more, less)) })
    by false is rest = still (last (filter t (first_numbers n))) rest
      where
        still : (o : Option ℕ) → Ends t n o → Ends t (suc n) o
        still None none = λ q less. elim (lt_or q n less) [ inl low ↦ none q low | inr same ↦ ap t same ∙ is ]
        still (Some p) greatest = record { below = omega (arith, greatest.below); passes = greatest.passes; later = λ q more less. elim (lt_or q n less) [ inl low ↦ greatest.later q more low | inr same ↦ ap t same ∙ is ] }

pub last_is : (t : ℕ → Bool) (n p : ℕ) → IsGreatest t n p → last (filter t (first_numbers n)) ≡ Some p
last_is t n p greatest = by (last (filter t (first_numbers n))) (last_ends t n)
  where
    same : (q : ℕ) → IsGreatest t n q → q ≡ p
    same q other = elim (order q p) [
      | inl less ↦ absurd (not_both t p greatest.passes (other.later p less greatest.below))
      | inr more ↦ elim more [ inl e ↦ e | inr less ↦ absurd (not_both t q other.passes (greatest.later q less other.below)) ]
    ]

    by : (o : Option ℕ) → Ends t n o → o ≡ Some p
    by None none = absurd (not_both t p greatest.passes (none p greatest.below))
    by (Some q) other = ap (λ x. Some x) (same q other)

pub last_none : (t : ℕ → Bool) (n : ℕ) → ((q : ℕ) → q < n → t q ≡ false) → last (filter t (first_numbers n)) ≡ None
last_none t n none = by (last (filter t (first_numbers n))) (last_ends t n)
  where
    by : (o : Option ℕ) → Ends t n o → o ≡ None
    by None e = refl
    by (Some q) other = absurd (not_both t q other.passes (none q other.below))

pub last_same : (s t : ℕ → Bool) (n : ℕ) → ((q : ℕ) → q < n → s q ≡ t q) → last (filter s (first_numbers n)) ≡ last (filter t (first_numbers n))
last_same s t n same = by (last (filter t (first_numbers n))) (last_ends t n)
  where
    by : (o : Option ℕ) → Ends t n o → last (filter s (first_numbers n)) ≡ o
    by None none = last_none s n (λ q less. same q less ∙ none q less)
    by (Some p) g = last_is s n p (record { below = g.below; passes = same p g.below ∙ g.passes; later = λ q more less. same q less ∙ g.later q more less })

-- all of the numbers below n pass
pub each_first : (t : ℕ → Bool) (n : ℕ) → list_all t (first_numbers n) ≡ true → (q : ℕ) → q < n → t q ≡ true
each_first t zero h q less = absurd (omega (arith, less))
each_first t (suc n) h q less = elim (lt_or q n less) [ inl low ↦ each_first t n parts.0 q low | inr same ↦ ap t same ∙ parts.1 ]
  where
    both : (a b : Bool) → (a && b) ≡ true → (a ≡ true) × (b ≡ true)
    both true b e = (refl, e)
    both false b e = absurd (true≢false (sym e))

    parts : (list_all t (first_numbers n) ≡ true) × (t n ≡ true)
    parts = both (list_all t (first_numbers n)) (t n) (sym (all_push t (first_numbers n) n) ∙ h)

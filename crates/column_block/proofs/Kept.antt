-- The items that pass a test, one place after the other.
use Rattle.std.proofs.Common.{◌≡◌, ◌∙◌, sym, ap, subst, refl, ℕ, zero, suc, ◌+◌, ◌<◌, Bool, true, false, cond, ◌||◌, List, [], ◌∷◌, ◌++◌, length, map, take, get_or, arith, append-nil}
use Rattle.std.specs.Prelude.{filter}
use Rattle.std.specs.List.{list_any}
use Rattle.std.proofs.lemmas.List.{take-map, take_more, map-append}

module _ {X : Type 0} (p : X → Bool) where
  filter_both : (xs ys : List X) → filter p (xs ++ ys) ≡ filter p xs ++ filter p ys
  filter_both [] ys = refl
  filter_both (x ∷ xs) ys = elim (p x) as (λ b. cond b (x ∷ filter p (xs ++ ys)) (filter p (xs ++ ys)) ≡ cond b (x ∷ filter p xs) (filter p xs) ++ filter p ys) [ true ↦ ap (λ r. x ∷ r) (filter_both xs ys) | false ↦ filter_both xs ys ]

  any_both : (xs ys : List X) → list_any p (xs ++ ys) ≡ (list_any p xs || list_any p ys)
  any_both [] ys = refl
  any_both (x ∷ xs) ys = elim (p x) as (λ b. (b || list_any p (xs ++ ys)) ≡ ((b || list_any p xs) || list_any p ys)) [ true ↦ refl | false ↦ any_both xs ys ]

module _ {X Y : Type 0} (f : Y → X) (p : X → Bool) where
  -- the items up to and with the one at a place
  one_more : (ys : List Y) (xs : List X) (i : ℕ) (y : Y) (x : X) → map f ys ≡ xs → i < length ys → y ≡ get_or ys i y → x ≡ f y → take (i + 1) xs ≡ take i xs ++ x ∷ []
  one_more ys xs i y x view lt at is =
      let more : take (i + 1) (map f ys) ≡ take i (map f ys) ++ f (get_or ys i y) ∷ [] =
      take-map f (i + 1) ys ∙ ap (map f) (take_more ys i y lt) ∙ map-append f (take i ys) (get_or ys i y ∷ []) ∙ ap (λ r. r ++ f (get_or ys i y) ∷ []) (sym (take-map f i ys)) in
      let here : f (get_or ys i y) ≡ x = sym (is ∙ ap f at) in
      subst (λ zs. take (i + 1) zs ≡ take i zs ++ x ∷ []) view (more ∙ ap (λ z. take i (map f ys) ++ z ∷ []) here)

  pub kept_next : (ys : List Y) (xs : List X) (i : ℕ) (y : Y) (x : X) → map f ys ≡ xs → i < length ys → y ≡ get_or ys i y → x ≡ f y → p x ≡ true → filter p (take i xs) ++ x ∷ [] ≡ filter p (take (i + 1) xs)
  kept_next ys xs i y x view lt at is e =
      sym (ap (filter p) (one_more ys xs i y x view lt at is) ∙ filter_both p (take i xs) (x ∷ []) ∙ ap (λ b. filter p (take i xs) ++ cond b (x ∷ []) []) e)

  pub passed_over : (ys : List Y) (xs : List X) (i : ℕ) (y : Y) (x : X) → map f ys ≡ xs → i < length ys → y ≡ get_or ys i y → x ≡ f y → p x ≡ false → filter p (take i xs) ≡ filter p (take (i + 1) xs)
  passed_over ys xs i y x view lt at is e =
      sym (ap (filter p) (one_more ys xs i y x view lt at is) ∙ filter_both p (take i xs) (x ∷ []) ∙ ap (λ b. filter p (take i xs) ++ cond b (x ∷ []) []) e ∙ append-nil (filter p (take i xs)))

  pub none_next : (ys : List Y) (xs : List X) (i : ℕ) (y : Y) (x : X) → map f ys ≡ xs → i < length ys → y ≡ get_or ys i y → x ≡ f y → p x ≡ false → list_any p (take i xs) ≡ false → list_any p (take (i + 1) xs) ≡ false
  none_next ys xs i y x view lt at is e so_far =
      ap (list_any p) (one_more ys xs i y x view lt at is) ∙ any_both p (take i xs) (x ∷ []) ∙ (λ k. so_far k || (e k || false))

  any_at : (ys : List Y) (i : ℕ) (d : Y) → i < length ys → p (f (get_or ys i d)) ≡ true → list_any p (map f ys) ≡ true
  any_at [] i d lt e = absurd (omega arith)
  any_at (y ∷ ys) zero d lt e = ap (λ b. b || list_any p (map f ys)) e
  any_at (y ∷ ys) (suc i) d lt e = elim (p (f y)) as (λ b. (b || list_any p (map f ys)) ≡ true) [ true ↦ refl | false ↦ any_at ys i d (omega arith) e ]

  pub any_here : (ys : List Y) (xs : List X) (i : ℕ) (y : Y) (x : X) → map f ys ≡ xs → i < length ys → y ≡ get_or ys i y → x ≡ f y → p x ≡ true → list_any p xs ≡ true
  any_here ys xs i y x view lt at is e = ap (list_any p) (sym view) ∙ any_at ys i y lt (ap p (sym (is ∙ ap f at)) ∙ e)

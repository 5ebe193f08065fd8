-- The sets of what was applied, count by count.
use Rattle.std.proofs.Common.{◌≡◌, ◌∙◌, refl, sym, ap, ℕ, zero, suc, ◌<◌, ◌≤◌, Bool, true, false, true≢false, ◌||◌, List, [], ◌∷◌, ◌++◌, length, length-append, take, arith}
use Rattle.std.specs.Prelude.{◌==◌}
use Rattle.std.specs.List.{list_any}
use Rattle.std.proofs.lemmas.List.{take_all, take-append-le}
use Rattle.std.proofs.lemmas.List.Folds.{list_any-append}
use Rattle.committed_log.specs.Applied.{with_position}
use Rattle.committed_log.specs.Laws.{IsInside}
use Rattle.prefix_laws.specs.Prefixes.{AreSteps, upto}

or_left : (a b : Bool) → a ≡ true → (a || b) ≡ true
or_left true b e = refl
or_left false b e = absurd (true≢false (sym e))

or_mono : (a b c : Bool) → (b ≡ true → c ≡ true) → (a || b) ≡ true → (a || c) ≡ true
or_mono true b c f e = refl
or_mono false b c f e = f e

any_more : (p : ℕ → Bool) (xs : List ℕ) (j k : ℕ) → j ≤ k → list_any p (take j xs) ≡ true → list_any p (take k xs) ≡ true
any_more p [] zero k le e = absurd (true≢false (sym e))
any_more p [] (suc j) k le e = absurd (true≢false (sym e))
any_more p (x ∷ xs) zero k le e = absurd (true≢false (sym e))
any_more p (x ∷ xs) (suc j) zero le e = absurd (omega (arith, le))
any_more p (x ∷ xs) (suc j) (suc k) le e = or_mono (p x) (list_any p (take j xs)) (list_any p (take k xs)) (any_more p xs j k (omega (arith, le))) e

module _ (opened : ℕ → Bool) (listed : List ℕ) where
  pub upto_grows : (j k : ℕ) → j ≤ k → IsInside (upto opened listed j) (upto opened listed k)
  upto_grows j k le p e = or_mono (opened p) (list_any (λ (q : ℕ). p == q) (take j listed)) (list_any (λ (q : ℕ). p == q) (take k listed)) (any_more (λ (q : ℕ). p == q) listed j k le) e

  pub are_steps : (m last : ℕ) → ((p : ℕ) → upto opened listed last p ≡ true → p < m) → AreSteps (upto opened listed) m last
  are_steps m last below = record { grow = upto_grows; below = below }

  -- one position more
  pub upto_same : (p k : ℕ) → k ≤ length listed → upto opened (listed ++ p ∷ []) k ≡ upto opened listed k
  upto_same p k le = (λ i q. opened q || list_any (λ (r : ℕ). q == r) (take-append-le k listed (p ∷ []) le i))

  or_swap : (a b c : Bool) → (a || (b || (c || false))) ≡ (c || (a || b))
  or_swap true b true = refl
  or_swap true b false = refl
  or_swap false true true = refl
  or_swap false true false = refl
  or_swap false false true = refl
  or_swap false false false = refl

  pub upto_next : (p : ℕ) → upto opened (listed ++ p ∷ []) (suc (length listed)) ≡ with_position (upto opened listed (length listed)) p
  upto_next p = (λ i q. next q i)
    where
      whole : take (suc (length listed)) (listed ++ p ∷ []) ≡ listed ++ p ∷ []
      whole = take_all (suc (length listed)) (listed ++ p ∷ []) (grind (arith, length-append))

      next : (q : ℕ) → upto opened (listed ++ p ∷ []) (suc (length listed)) q ≡ with_position (upto opened listed (length listed)) p q
      next q =
          ap (λ xs. opened q || list_any (λ (r : ℕ). q == r) xs) whole
          ∙ ap (λ b. opened q || b) (list_any-append (λ (r : ℕ). q == r) listed (p ∷ []))
          ∙ or_swap (opened q) (list_any (λ (r : ℕ). q == r) listed) (q == p)
          ∙ ap (λ xs. (q == p) || (opened q || list_any (λ (r : ℕ). q == r) xs)) (sym (take_all (length listed) listed (omega arith)))

-- where none is listed
pub upto_none : (opened : ℕ → Bool) (k : ℕ) → upto opened [] k ≡ opened
upto_none opened k = (λ i q. none k q i)
  where
    or_false : (a : Bool) → (a || false) ≡ a
    or_false true = refl
    or_false false = refl

    none : (k q : ℕ) → upto opened [] k q ≡ opened q
    none zero q = or_false (opened q)
    none (suc k) q = or_false (opened q)

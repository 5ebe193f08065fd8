-- The first number with a property, and the last, found by going over the numbers.
use Rattle.std.proofs.Common.{◌≡◌, ℕ, zero, suc, ◌+◌, ◌<◌, Bool, true, false, cond, List, [], ◌∷◌, ◌++◌, Option, Some, None, refl, sym, ap, ◌∙◌, subst, arith}
use Rattle.std.specs.Option.{option_or}
use Rattle.std.specs.Prelude.{find, filter, IfSome}
use Rattle.std.proofs.lemmas.List.{append-nil}
use Rattle.std.proofs.lemmas.List.Elements.{filter-append}
use Rattle.std.proofs.lemmas.List.Folds.{find-append}
use Rattle.std.proofs.lemmas.List.Sums.{fold-append}
use Rattle.committed_log.specs.Applied.{first_numbers, last}

next_number : (n : ℕ) → first_numbers (n + 1) ≡ first_numbers n ++ n ∷ []
next_number n = ap first_numbers one_more
  where
    one_more : n + 1 ≡ suc n
    one_more = omega arith

-- one more number
pub found_more : (test : ℕ → Bool) (n : ℕ) (before : Option ℕ) → before ≡ find test (first_numbers n) → find test (first_numbers (n + 1)) ≡ option_or before (cond (test n) (Some n) None)
found_more test n before is =
    ap (find test) (next_number n) ∙ find-append test (first_numbers n) (n ∷ []) ∙ ap (λ b. option_or b (find test (n ∷ []))) (sym is)

-- the number that is found is one of those that were looked at
below_one : (n : ℕ) (t : Bool) (r : Option ℕ) → r ≡ cond t (Some n) None → IfSome r (λ p. p < n + 1)
below_one n t None is = tt
below_one n true (Some p) is = let same : p ≡ n = cc is in omega (arith, same)
below_one n false (Some p) is = absurd (cc is)

below_or : (n : ℕ) (t : Bool) (before : Option ℕ) (r : Option ℕ) → IfSome before (λ p. p < n) → r ≡ option_or before (cond t (Some n) None) → IfSome r (λ p. p < n + 1)
below_or n t None r low is = below_one n t r is
below_or n t (Some b) None low is = tt
below_or n t (Some b) (Some p) low is = let same : p ≡ b = cc is in omega (arith, same, low)

pub found_below : (test : ℕ → Bool) (n : ℕ) (r : Option ℕ) → r ≡ find test (first_numbers n) → IfSome r (λ p. p < n)
found_below test zero None is = tt
found_below test zero (Some p) is = absurd (cc is)
found_below test (suc n) r is =
    let low = found_below test n (find test (first_numbers n)) refl in
    let more : suc n ≡ n + 1 = omega arith in
    subst (λ m. IfSome r (λ p. p < m)) (sym more) (below_or n (test n) (find test (first_numbers n)) r low (is ∙ ap (λ m. find test (first_numbers m)) more ∙ found_more test n (find test (first_numbers n)) refl))

-- the last of the numbers that pass, with one more
one_last : (test : ℕ → Bool) (ps : List ℕ) (n : ℕ) (t : Bool) → test n ≡ t → last (filter test (ps ++ n ∷ [])) ≡ cond t (Some n) (last (filter test ps))
one_last test ps n true here = ap last (filter-append test ps (n ∷ []) ∙ ap (λ (t : Bool). filter test ps ++ cond t (n ∷ []) []) here) ∙ fold-append (λ before p. Some p) None (filter test ps) (n ∷ [])
one_last test ps n false here = ap last (filter-append test ps (n ∷ []) ∙ ap (λ (t : Bool). filter test ps ++ cond t (n ∷ []) []) here ∙ append-nil (filter test ps))

pub last_more : (test : ℕ → Bool) (n : ℕ) (before : Option ℕ) → before ≡ last (filter test (first_numbers n)) → last (filter test (first_numbers (n + 1))) ≡ cond (test n) (Some n) before
last_more test n before is = ap (λ ps. last (filter test ps)) (next_number n) ∙ one_last test (first_numbers n) n (test n) refl ∙ ap (cond (test n) (Some n)) (sym is)

below_last : (n : ℕ) (t : Bool) (before r : Option ℕ) → IfSome before (λ p. p < n) → r ≡ cond t (Some n) before → IfSome r (λ p. p < n + 1)
below_last n t before None low is = tt
below_last n true before (Some p) low is = let same : p ≡ n = cc is in omega (arith, same)
below_last n false None (Some p) low is = absurd (cc is)
below_last n false (Some b) (Some p) low is = let same : p ≡ b = cc is in omega (arith, same, low)

pub last_below : (test : ℕ → Bool) (n : ℕ) (r : Option ℕ) → r ≡ last (filter test (first_numbers n)) → IfSome r (λ p. p < n)
last_below test zero None is = tt
last_below test zero (Some p) is = absurd (cc is)
last_below test (suc n) r is =
    let before = last (filter test (first_numbers n)) in
    let low = last_below test n before refl in
    let more : suc n ≡ n + 1 = omega arith in
    subst (λ m. IfSome r (λ p. p < m)) (sym more) (below_last n (test n) before r low (is ∙ ap (λ m. last (filter test (first_numbers m))) more ∙ last_more test n before refl))

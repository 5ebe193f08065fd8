-- Writing one part after the other.
use Rattle.std.proofs.Common.{◌≡◌, ℕ, Result, Ok, Err, List, [], ◌∷◌, ◌++◌, length, take, drop, refl, ap, ◌∙◌, subst, append_assoc}
use Rattle.flash_put.specs.Appending.{Appends}

begins : (old one new : List ℕ) → take (length (old ++ one)) new ≡ old ++ one → take (length old) new ≡ old
begins [] one new e = refl
begins (x ∷ old) one [] e = absurd cc
begins (x ∷ old) one (y ∷ new) e =
    let tail : take (length (old ++ one)) new ≡ old ++ one = ap (drop 1) e in
    let head : y ≡ x = cc e in
    ap (λ (xs : List ℕ). y ∷ xs) (begins old one new tail) ∙ ap (λ n. n ∷ old) head

-- what was there before the first part is kept where the second part fails
pub kept : (old one mid new : List ℕ) → mid ≡ old ++ one → take (length mid) new ≡ mid → take (length old) new ≡ old
kept old one mid new m n = begins old one new (subst (λ (xs : List ℕ). take (length xs) new ≡ xs) m n)

-- two parts are one
pub both : (old one two mid new : List ℕ) → mid ≡ old ++ one → new ≡ mid ++ two → new ≡ old ++ (one ++ two)
both old one two mid new m n = n ∙ ap (λ (xs : List ℕ). xs ++ two) m ∙ append_assoc old one two

-- a part, and then what is added to it
pub more : {X E : Type 0} (r : Result X E) (old one two mid new : List ℕ) → mid ≡ old ++ one → Appends r mid two new → Appends r old (one ++ two) new
more (Ok x) old one two mid new m n = both old one two mid new m n
more (Err e) old one two mid new m n = kept old one mid new m n

-- What a list without a fall is.
use Rattle.std.proofs.Common.{◌≡◌, ℕ, zero, suc, ◌+◌, ◌<◌, ◌≤◌, List, [], ◌∷◌, length, drop, get_or, Bool, true, false, nat_lt, if◌then◌else◌, Option, Some, None, refl, arith, drop-cons}
use Rattle.std.proofs.lemmas.Bool.{le-ltb, ltb-true}
use Rattle.column_block.specs.Rising.{fall_after, first_fall}

both : (b : Bool) (r : Option ℕ) (place : ℕ) → (if b then r else Some place) ≡ None → (b ≡ true) × (r ≡ None)
both true r place h = (refl, h)
both false r place h = cc h

first_above : (before place x : ℕ) (xs : List ℕ) → fall_after before place (x ∷ xs) ≡ None → (before < x) × (fall_after x (place + 1) xs ≡ None)
first_above before place x xs h = let b = both (nat_lt before x) (fall_after x (place + 1) xs) place h in (ltb-true before x b.0, b.1)

all_above : (xs : List ℕ) (before place j : ℕ) → fall_after before place xs ≡ None → j < length xs → before < get_or xs j 0
all_above [] before place j h lt = absurd (omega arith)
all_above (x ∷ xs) before place zero h lt = (first_above before place x xs h).0
all_above (x ∷ xs) before place (suc j) h lt =
    let s = first_above before place x xs h in
    let rest = all_above xs x (place + 1) j s.1 (omega arith) in
    omega (arith, s.0, rest)

rising_after : (xs : List ℕ) (before place i j : ℕ) → fall_after before place xs ≡ None → i < j → j < length xs → get_or xs i 0 < get_or xs j 0
rising_after [] before place i j h lt within = absurd (omega arith)
rising_after (x ∷ xs) before place zero zero h lt within = absurd (omega arith)
rising_after (x ∷ xs) before place zero (suc j) h lt within = all_above xs x (place + 1) j (first_above before place x xs h).1 (omega arith)
rising_after (x ∷ xs) before place (suc i) zero h lt within = absurd (omega arith)
rising_after (x ∷ xs) before place (suc i) (suc j) h lt within = rising_after xs x (place + 1) i j (first_above before place x xs h).1 (omega arith) (omega arith)

-- numbers with no fall rise
pub rising : (xs : List ℕ) (i j : ℕ) → first_fall xs ≡ None → i < j → j < length xs → get_or xs i 0 < get_or xs j 0
rising [] i j h lt within = absurd (omega arith)
rising (x ∷ xs) zero zero h lt within = absurd (omega arith)
rising (x ∷ xs) zero (suc j) h lt within = all_above xs x 1 j h (omega arith)
rising (x ∷ xs) (suc i) zero h lt within = absurd (omega arith)
rising (x ∷ xs) (suc i) (suc j) h lt within = rising_after xs x 1 i j h (omega arith) (omega arith)

pub falls_here : (xs : List ℕ) (i before : ℕ) → i < length xs → get_or xs i 0 ≤ before → fall_after before i (drop i xs) ≡ Some i
falls_here xs i before lt le = let e : nat_lt before (get_or xs i 0) ≡ false = le-ltb before (get_or xs i 0) le in rw (drop-cons xs i 0, e) refl

-- Lists that are true at each number of a seat.
use Rattle.std.proofs.Common.{◌≡◌, ℕ, zero, suc, ◌+◌, ◌-◌, ◌<◌, ◌≤◌, ◌⊎◌, ◌||◌, inl, inr, Bool, true, false, eqb, List, [], ◌∷◌, length, get_or, set, replicate, sym, refl, ap, ◌∙◌, arith, ne_eqb}
use Rattle.turnstile.specs.Numbers.{total, bit, first_true, either_true, ones, all_but_first}

pub true-ne-false : true ≡ false → (Z : Type 0) → Z
true-ne-false e Z = let h : bit true ≡ bit false = ap bit e in absurd (omega arith)

pub bit_or : (a b : Bool) → bit a + bit b ≤ 1 → bit (a || b) ≡ bit a + bit b
bit_or true true l = absurd (omega arith)
bit_or true false l = omega arith
bit_or false b l = omega arith

pub or_true : (a b : Bool) → (a || b) ≡ true → (a ≡ true) ⊎ (b ≡ true)
or_true true b e = inl refl
or_true false b e = inr e

pub unset : (l : List Bool) (i k : ℕ) → get_or (set l i false) k false ≡ true → get_or l k false ≡ true
unset [] i k e = e
unset (b ∷ bs) zero zero e = true-ne-false (sym e) _
unset (b ∷ bs) zero (suc k) e = e
unset (b ∷ bs) (suc i) zero e = e
unset (b ∷ bs) (suc i) (suc k) e = unset bs i k e

pub set_off : (l : List Bool) (i : ℕ) → get_or (set l i false) i false ≡ false
set_off [] i = refl
set_off (b ∷ bs) zero = refl
set_off (b ∷ bs) (suc i) = set_off bs i

or_false : (a : Bool) → a ≡ (a || false)
or_false true = refl
or_false false = refl

pub either_at : (a b : List Bool) (k : ℕ) → get_or (either_true a b) k false ≡ (get_or a k false || get_or b k false)
either_at [] b k = refl
either_at (x ∷ xs) [] zero = or_false x
either_at (x ∷ xs) [] (suc k) = or_false (get_or xs k false)
either_at (x ∷ xs) (y ∷ ys) zero = refl
either_at (x ∷ xs) (y ∷ ys) (suc k) = either_at xs ys k

pub either_length : (a b : List Bool) → length a ≤ length (either_true a b)
either_length [] b = omega arith
either_length (x ∷ xs) [] = omega arith
either_length (x ∷ xs) (y ∷ ys) = omega (arith, either_length xs ys)

pub either_count : (a b : List Bool) → ((k : ℕ) → bit (get_or a k false) + bit (get_or b k false) ≤ 1) → total bit (either_true a b) ≡ total bit a + total bit b
either_count [] b once = omega arith
either_count (x ∷ xs) [] once = omega arith
either_count (x ∷ xs) (y ∷ ys) once = omega (arith, bit_or x y (once 0), either_count xs ys (λ k. once (suc k)))

pub set_count : (l : List Bool) (i : ℕ) → i < length l → bit (get_or l i false) ≡ 0 → total bit (set l i true) ≡ total bit l + 1
set_count [] i h e = absurd (omega arith)
set_count (b ∷ bs) zero h e = omega (arith, e)
set_count (b ∷ bs) (suc i) h e = omega (arith, set_count bs i (omega arith) e)

-- nothing is true in a list that is false at each place
pub none_counted : (l : List Bool) → ((j : ℕ) → j < length l → get_or l j false ≡ false) → total bit l ≡ 0
none_counted [] none = refl
none_counted (b ∷ bs) none = omega (arith, ap bit (none 0 (omega arith)), none_counted bs (λ j l. none (suc j) (omega arith)))

pub first_at : (l : List Bool) (k : ℕ) → ((j : ℕ) → j < k → get_or l j false ≡ false) → get_or l k false ≡ true → k ≡ first_true l
first_at [] k off e = true-ne-false (sym e) _
first_at (true ∷ bs) zero off e = refl
first_at (false ∷ bs) zero off e = true-ne-false (sym e) _
first_at (true ∷ bs) (suc k) off e = true-ne-false (off 0 (omega arith)) _
first_at (false ∷ bs) (suc k) off e = ap suc (first_at bs k (λ j l. off (suc j) (omega arith)) e)

pub unset_count : (l : List Bool) (i : ℕ) → get_or l i false ≡ true → total bit (set l i false) + 1 ≡ total bit l
unset_count [] i e = true-ne-false (sym e) _
unset_count (b ∷ bs) zero e = omega (arith, ap bit e)
unset_count (b ∷ bs) (suc i) e = omega (arith, unset_count bs i e)

pub none_at : (n k : ℕ) → get_or (replicate n false) k false ≡ false
none_at zero k = refl
none_at (suc n) zero = refl
none_at (suc n) (suc k) = none_at n k

pub both_long : (a b : List Bool) (n : ℕ) → length a ≡ n → length b ≡ n → length (either_true a b) ≡ n
both_long [] b n e f = f
both_long (x ∷ xs) [] n e f = e
both_long (x ∷ xs) (y ∷ ys) zero e f = absurd (omega arith)
both_long (x ∷ xs) (y ∷ ys) (suc n) e f = ap suc (both_long xs ys n (omega arith) (omega arith))

ones_below : (n k j : ℕ) → get_or (ones n k) j false ≡ true → j < k
ones_below zero k j e = true-ne-false (sym e) _
ones_below (suc n) zero zero e = true-ne-false (sym e) _
ones_below (suc n) zero (suc j) e = absurd (omega (arith, ones_below n zero j e))
ones_below (suc n) (suc k) zero e = omega arith
ones_below (suc n) (suc k) (suc j) e = omega (arith, ones_below n k j e)

ones_at : (n k j : ℕ) → k ≤ n → j < k → get_or (ones n k) j false ≡ true
ones_at zero k j le l = absurd (omega arith)
ones_at (suc n) zero j le l = absurd (omega arith)
ones_at (suc n) (suc k) zero le l = refl
ones_at (suc n) (suc k) (suc j) le l = ones_at n k j (omega arith) (omega arith)

ones_total : (n k : ℕ) → k ≤ n → total bit (ones n k) ≡ k
ones_total zero k le = omega arith
ones_total (suc n) zero le = omega (arith, ones_total n zero (omega arith))
ones_total (suc n) (suc k) le = omega (arith, ones_total n k (omega arith))

ones_set : (n k : ℕ) → k < n → set (ones n k) k true ≡ ones n (suc k)
ones_set zero k l = absurd (omega arith)
ones_set (suc n) zero l = refl
ones_set (suc n) (suc k) l = ap (λ (bs : List Bool). true ∷ bs) (ones_set n k (omega arith))

-- of the numbers below n but 0
pub ones_in : (n k : ℕ) → 0 < n → get_or (all_but_first n) k false ≡ true → k < n
ones_in n zero some e = some
ones_in n (suc k) some e = omega (arith, ones_below 15 (n - 1) k e)

pub ones_count : (n : ℕ) → 0 < n → n ≤ 16 → total bit (all_but_first n) + 1 ≡ n
ones_count n some few = omega (arith, ones_total 15 (n - 1) (omega arith))

pub ones_all : (n k : ℕ) → n ≤ 16 → k < n → bit (eqb 0 k) + bit (get_or (all_but_first n) k false) ≡ 1
ones_all n zero few l = refl
ones_all n (suc k) few l = omega (arith, ap bit (ne_eqb 0 (suc k) (λ e. omega arith)), ap bit (ones_at 15 (n - 1) k (omega arith) (omega arith)))

pub ones_grow : (n : ℕ) (l : List Bool) → l ≡ all_but_first n → 0 < n → n < 16 → set l n true ≡ all_but_first (n + 1)
ones_grow zero l e some few = absurd (omega arith)
ones_grow (suc m) l e some few = let one : m ≡ suc m - 1 = omega arith in let two : suc m ≡ suc m + 1 - 1 = omega arith in
    ap (λ (z : List Bool). set z (suc m) true) (e ∙ ap (λ (z : ℕ). false ∷ ones 15 z) (sym one)) ∙ (ap (λ (z : List Bool). false ∷ z) (ones_set 15 m (omega arith)) ∙ ap (λ (z : ℕ). false ∷ ones 15 z) two)

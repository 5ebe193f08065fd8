-- Numbers of seats, as lists that are true at each number that is there.
use Rattle.std.specs.Prelude.{ℕ, zero, suc, ◌+◌, ◌-◌, Bool, true, false, cond, ◌||◌, List, [], ◌∷◌, replicate}

-- the sum of g over a list
abbrev pub total : {A : Type 0} → (A → ℕ) → List A → ℕ
total g [] = 0
total g (x ∷ xs) = g x + total g xs

abbrev pub bit : Bool → ℕ
bit b = cond b 1 0

-- the place of the first true
abbrev pub first_true : List Bool → ℕ
first_true [] = 0
first_true (b ∷ bs) = cond b 0 (suc (first_true bs))

-- true where one of the two is
abbrev pub either_true : List Bool → List Bool → List Bool
either_true [] bs = bs
either_true (a ∷ as') [] = a ∷ as'
either_true (a ∷ as') (b ∷ bs) = (a || b) ∷ either_true as' bs

-- n places, of which the first k are true
abbrev pub ones : ℕ → ℕ → List Bool
ones zero k = []
ones (suc n) zero = false ∷ ones n zero
ones (suc n) (suc k) = true ∷ ones n k

-- the numbers below n but 0
abbrev pub all_but_first : ℕ → List Bool
all_but_first n = false ∷ ones 15 (n - 1)

abbrev pub none_spare : List Bool
none_spare = replicate 16 false

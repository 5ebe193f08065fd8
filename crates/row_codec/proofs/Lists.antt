-- Packed numbers by their places, and numbers that rise.
use Rattle.std.proofs.Common.{◌≡◌, ℕ, zero, suc, ◌+◌, ◌-◌, ◌*◌, ◌<◌, ◌≤◌, List, length, drop, get_or, true, false, nat_lt, None, refl, ap, ◌∙◌, arith}
use Rattle.std.proofs.Math.Nat.{mul-zero, mul-suc}
use Rattle.std.proofs.lemmas.List.{drop-drop}
use Rattle.std.proofs.lemmas.Bool.{ltb-true, ltb-false}
use Rattle.byteorder.specs.Endian.{little_number}
use Rattle.column_block.specs.Rising.{first_fall}
use Rattle.column_block.proofs.Rising.{rising}
use Rattle.row_codec.specs.Numbers.{numbers}

pub numbers_count : (width count : ℕ) (bytes : List ℕ) → length (numbers width count bytes) ≡ count
unfolding numbers
numbers_count width zero bytes = refl
numbers_count width (suc count) bytes = ap suc (numbers_count width count (drop width bytes))

pub get_or-numbers : (width count : ℕ) (bytes : List ℕ) (k : ℕ) → k < count → get_or (numbers width count bytes) k 0 ≡ little_number width (drop (width * k) bytes)
unfolding numbers
get_or-numbers width zero bytes k lt = absurd (omega arith)
get_or-numbers width (suc count) bytes zero lt = rw mul-zero refl
get_or-numbers width (suc count) bytes (suc k) lt = get_or-numbers width count (drop width bytes) k (omega arith) ∙ ap (little_number width) (drop-drop (width * k) width bytes ∙ ap (λ n. drop n bytes) (omega (arith, mul-suc width k)))

pub at_most_here : (xs : List ℕ) (n k middle : ℕ) → first_fall xs ≡ None → middle < length xs → get_or xs middle 0 < n → k < middle + 1 → get_or xs k 0 < n
at_most_here xs n k middle h within less lt =
    elim (nat_lt k middle) as (λ b. nat_lt k middle ≡ b → get_or xs k 0 < n) [
      | true ↦ λ e. omega (arith, rising xs k middle h (ltb-true k middle e) within)
      | false ↦ λ e. let same : k ≡ middle = omega (arith, ltb-false k middle e) in omega (arith, ap (λ i. get_or xs i 0) same)
    ] refl

pub at_least_here : (xs : List ℕ) (n k middle : ℕ) → first_fall xs ≡ None → k < length xs → n < get_or xs middle 0 → middle ≤ k → n < get_or xs k 0
at_least_here xs n k middle h within more le =
    elim (nat_lt middle k) as (λ b. nat_lt middle k ≡ b → n < get_or xs k 0) [
      | true ↦ λ e. omega (arith, rising xs middle k h (ltb-true middle k e) within)
      | false ↦ λ e. let same : k ≡ middle = omega (arith, ltb-false middle k e) in omega (arith, ap (λ i. get_or xs i 0) same)
    ] refl

-- a number that lies between two neighbours, or below the first, isn't there
pub before_all : (xs : List ℕ) (n k : ℕ) → first_fall xs ≡ None → n < get_or xs 0 0 → k < length xs → get_or xs k 0 ≡ n → ⊥
before_all xs n k h less within same = let more = at_least_here xs n k 0 h within less (omega arith) in absurd (omega (arith, more, same))

pub between : (xs : List ℕ) (n near k : ℕ) → first_fall xs ≡ None → near < length xs → n < get_or xs near 0 → get_or xs (near - 1) 0 < n → k < length xs → get_or xs k 0 ≡ n → ⊥
between xs n near k h lt more less within same =
    elim (nat_lt k near) as (λ b. nat_lt k near ≡ b → ⊥) [
      | true ↦ λ e. absurd (omega (arith, same, at_most_here xs n k (near - 1) h (omega arith) less (omega (arith, ltb-true k near e))))
      | false ↦ λ e. absurd (omega (arith, same, at_least_here xs n k near h within more (ltb-false k near e)))
    ] refl

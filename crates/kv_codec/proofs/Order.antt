-- Keys are in the order of their handles.
use Rattle.std.proofs.Common.{◌≡◌, ℕ, ℤ, pos, negsuc, zero, suc, ◌+◌, ◌-◌, ◌*◌, ◌/◌, ◌%◌, ◌^◌, ◌<◌, ◌≤◌, Bool, true, false, cond, ltb, eqb, List, [], ◌∷◌, ◌++◌, refl, sym, ap, ◌∙◌, inl, inr, ◌⊎◌, arith, eq-eqb}
use Rattle.std.specs.Prelude.{FitsSigned, slice_index}
use Rattle.std.specs.Int.{w64, to_be_bytes}
use Rattle.std.specs.Int.Signed.{◌<ℤ◌}
use Rattle.std.specs.Ordering.{nat_cmp}
use Rattle.std.specs.declared.cmp.Ordering.TheVariants.{Less, Equal}
use Rattle.std.specs.Cmp.Lexicographic.{slice_cmp}
use Rattle.std.proofs.lemmas.Bool.{cases_lt, le-ltb, lt-ltb}
use Rattle.std.proofs.Math.Nat.{div-div-eq-div-mul, div-mul-le_self}
use Rattle.std.proofs.lemmas.Nat.{le-div}
use Rattle.kv_codec.specs.Keys.{flipped, key_by_places}
use Rattle.kv_codec.proofs.KeysAgain.{flipped_fits, by_places}
use Rattle.kv_codec.specs.Spelling as S

same_first : (x : ℕ) → nat_cmp x x ≡ Equal
same_first x = let no : ltb x x ≡ false = le-ltb _ _ (omega arith) in rw (no, eq-eqb x x refl) refl

same : (x : ℕ) (xs ys : List ℕ) → slice_cmp nat_cmp xs ys ≡ Less → slice_cmp nat_cmp (x ∷ xs) (x ∷ ys) ≡ Less
same x xs ys less = rw (same_first x) less

lower : (x y : ℕ) (xs ys : List ℕ) → x < y → slice_cmp nat_cmp (x ∷ xs) (y ∷ ys) ≡ Less
lower x y xs ys lt = rw (lt-ltb _ _ lt) refl

same_front : (front xs ys : List ℕ) → slice_cmp nat_cmp xs ys ≡ Less → slice_cmp nat_cmp (front ++ xs) (front ++ ys) ≡ Less
same_front [] xs ys less = less
same_front (x ∷ front) xs ys less = same x (front ++ xs) (front ++ ys) (same_front front xs ys less)

quotient_le : (n m p : ℕ) → 0 < p → n ≤ m → n / p ≤ m / p
quotient_le n m p some le = le-div (n / p) m p some (omega (arith, div-mul-le_self n p, le))

-- a byte decides, or it is the same and the numbers down to it are
byte_decides : (n m p : ℕ) (xs ys : List ℕ) → 0 < p → n < m → n / (p * 256) ≡ m / (p * 256) → (n / p ≡ m / p → slice_cmp nat_cmp xs ys ≡ Less) → slice_cmp nat_cmp (n / p % 256 ∷ xs) (m / p % 256 ∷ ys) ≡ Less
byte_decides n m p xs ys some lt high others =
    let a = n / p in
    let b = m / p in
    let le : a ≤ b = quotient_le n m p some (omega (arith, lt)) in
    let quotients : a / 256 ≡ b / 256 = div-div-eq-div-mul n p 256 ∙ high ∙ sym (div-div-eq-div-mul m p 256) in
    elim (cases_lt a b) [
      | inl less ↦ lower (a % 256) (b % 256) xs ys (omega (arith, less, quotients))
      | inr more ↦
          let eq : a ≡ b = omega (arith, le, more) in
          let low : a % 256 ≡ b % 256 = ap (λ k. k % 256) eq in
          rw low (same (b % 256) xs ys (others eq))
    ]

-- the bytes of a number from one of them on, as they stand in a key
abbrev from7 : ℕ → List ℕ
from7 n = n % 256 ∷ 0 ∷ 0 ∷ 0 ∷ 0 ∷ 0 ∷ 250 ∷ []

abbrev from6 : ℕ → List ℕ
from6 n = n / 2 ^ 8 % 256 ∷ from7 n

abbrev from5 : ℕ → List ℕ
from5 n = n / 2 ^ 16 % 256 ∷ from6 n

abbrev from4 : ℕ → List ℕ
from4 n = n / 2 ^ 24 % 256 ∷ 255 ∷ from5 n

abbrev from3 : ℕ → List ℕ
from3 n = n / 2 ^ 32 % 256 ∷ from4 n

abbrev from2 : ℕ → List ℕ
from2 n = n / 2 ^ 40 % 256 ∷ from3 n

abbrev from1 : ℕ → List ℕ
from1 n = n / 2 ^ 48 % 256 ∷ from2 n

abbrev from0 : ℕ → List ℕ
from0 n = n / 2 ^ 56 % 256 ∷ from1 n

order7 : (n m : ℕ) → n < m → n / 2 ^ 8 ≡ m / 2 ^ 8 → slice_cmp nat_cmp (from7 n) (from7 m) ≡ Less
order7 n m lt high = lower (n % 256) (m % 256) (0 ∷ 0 ∷ 0 ∷ 0 ∷ 0 ∷ 250 ∷ []) (0 ∷ 0 ∷ 0 ∷ 0 ∷ 0 ∷ 250 ∷ []) (omega (arith, lt, high))

order6 : (n m : ℕ) → n < m → n / 2 ^ 16 ≡ m / 2 ^ 16 → slice_cmp nat_cmp (from6 n) (from6 m) ≡ Less
order6 n m lt high = byte_decides n m (2 ^ 8) (from7 n) (from7 m) (omega arith) lt high (λ e. order7 n m lt e)

order5 : (n m : ℕ) → n < m → n / 2 ^ 24 ≡ m / 2 ^ 24 → slice_cmp nat_cmp (from5 n) (from5 m) ≡ Less
order5 n m lt high = byte_decides n m (2 ^ 16) (from6 n) (from6 m) (omega arith) lt high (λ e. order6 n m lt e)

order4 : (n m : ℕ) → n < m → n / 2 ^ 32 ≡ m / 2 ^ 32 → slice_cmp nat_cmp (from4 n) (from4 m) ≡ Less
order4 n m lt high = byte_decides n m (2 ^ 24) (255 ∷ from5 n) (255 ∷ from5 m) (omega arith) lt high (λ e. same 255 (from5 n) (from5 m) (order5 n m lt e))

order3 : (n m : ℕ) → n < m → n / 2 ^ 40 ≡ m / 2 ^ 40 → slice_cmp nat_cmp (from3 n) (from3 m) ≡ Less
order3 n m lt high = byte_decides n m (2 ^ 32) (from4 n) (from4 m) (omega arith) lt high (λ e. order4 n m lt e)

order2 : (n m : ℕ) → n < m → n / 2 ^ 48 ≡ m / 2 ^ 48 → slice_cmp nat_cmp (from2 n) (from2 m) ≡ Less
order2 n m lt high = byte_decides n m (2 ^ 40) (from3 n) (from3 m) (omega arith) lt high (λ e. order3 n m lt e)

order1 : (n m : ℕ) → n < m → n / 2 ^ 56 ≡ m / 2 ^ 56 → slice_cmp nat_cmp (from1 n) (from1 m) ≡ Less
order1 n m lt high = byte_decides n m (2 ^ 48) (from2 n) (from2 m) (omega arith) lt high (λ e. order2 n m lt e)

order0 : (n m : ℕ) → n < m → n / 2 ^ 64 ≡ m / 2 ^ 64 → slice_cmp nat_cmp (from0 n) (from0 m) ≡ Less
order0 n m lt high = byte_decides n m (2 ^ 56) (from1 n) (from1 m) (omega arith) lt high (λ e. order1 n m lt e)

-- what stands before the handle in a key of three groups
abbrev front_of : List ℕ → List ℕ
front_of t = 116 ∷ slice_index t 0 ∷ slice_index t 1 ∷ slice_index t 2 ∷ slice_index t 3 ∷ slice_index t 4 ∷ slice_index t 5 ∷ slice_index t 6 ∷ 255 ∷ slice_index t 7 ∷ 95 ∷ 114 ∷ []

key_parts : (t : List ℕ) (n : ℕ) → key_by_places t (to_be_bytes w64 n) ≡ front_of t ++ from0 n
key_parts t n = refl

numbers_order : (t : List ℕ) (n m : ℕ) → n < m → m < 2 ^ 64 → slice_cmp nat_cmp (key_by_places t (to_be_bytes w64 n)) (key_by_places t (to_be_bytes w64 m)) ≡ Less
numbers_order t n m lt fits =
    let top : n / 2 ^ 64 ≡ m / 2 ^ 64 = omega (arith, lt, fits) in
    ap (λ (xs : List ℕ). slice_cmp nat_cmp xs (key_by_places t (to_be_bytes w64 m))) (key_parts t n) ∙ ap (slice_cmp nat_cmp (front_of t ++ from0 n)) (key_parts t m) ∙ same_front (front_of t) (from0 n) (from0 m) (order0 n m lt top)

flipped_order : (a b : ℤ) → FitsSigned w64 a → FitsSigned w64 b → a <ℤ b → flipped a < flipped b
flipped_order (pos a) (pos b) fa fb lt = elim (cases_lt a b) [ inl less ↦ omega (arith, less) | inr more ↦ absurd (rw (le-ltb _ _ more) at lt.lt) ]
flipped_order (pos a) (negsuc b) fa fb lt = absurd lt.lt
flipped_order (negsuc a) (pos b) fa fb lt = omega (arith, fa.sfits)
flipped_order (negsuc a) (negsuc b) fa fb lt = elim (cases_lt b a) [ inl less ↦ omega (arith, less, fa.sfits) | inr more ↦ absurd (rw (le-ltb _ _ more) at lt.lt) ]

pub keys_order : (table a b : ℤ) → FitsSigned w64 a → FitsSigned w64 b → a <ℤ b → slice_cmp nat_cmp (S.key table a) (S.key table b) ≡ Less
keys_order table a b fa fb lt =
    let keys = numbers_order (to_be_bytes w64 (flipped table)) (flipped a) (flipped b) (flipped_order a b fa fb lt) (flipped_fits b fb) in
    ap (λ (xs : List ℕ). slice_cmp nat_cmp xs (S.key table b)) (sym (by_places table a)) ∙ ap (slice_cmp nat_cmp (key_by_places (to_be_bytes w64 (flipped table)) (to_be_bytes w64 (flipped a)))) (sym (by_places table b)) ∙ keys

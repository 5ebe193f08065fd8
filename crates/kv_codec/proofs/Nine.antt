-- Numbers of at most nine bytes, read from the lowest on.
use Rattle.std.proofs.Common.{◌≡◌, ◌≢◌, ℕ, zero, suc, ◌+◌, ◌-◌, ◌*◌, ◌^◌, ◌<◌, ◌≤◌, List, ◌∷◌, [], length, take, drop, get_or, Ok, refl, sym, ap, ◌∙◌, subst, arith, lit<}
use Rattle.std.proofs.Math.Nat.{pow-succ', one-le-pow, mul-le-mul_left, le-mul_of_pos_right, mul-add, mul_assoc}
use Rattle.std.proofs.lemmas.Bool.{le-ltb, lt-ltb}
use Rattle.std.proofs.lemmas.List.{take_all}
use Rattle.kv_codec.specs.Records.{number_at, IsNumber}

-- How far a number is read: `low` is what the bytes so far say, and the others count `weight` times.
pub record Begun (low weight more : ℕ) (bytes rest : List ℕ) : Type 0 where
  pub weights : weight * 128 ^ more ≡ 2 ^ 63
  pub below : low < weight
  pub read : (n : ℕ) (tail : List ℕ) → IsNumber more rest n tail → IsNumber 9 bytes (low + weight * n) tail

-- while a byte may follow, there is room for seven more bits
pub light : (weight more : ℕ) → weight * 128 ^ more ≡ 2 ^ 63 → more ≢ 0 → weight * 128 ≤ 2 ^ 63
light weight zero is ne = absurd (ne refl)
light weight (suc k) is ne =
    let split : weight * 128 ^ suc k ≡ weight * 128 * 128 ^ k = ap (λ n. weight * n) (pow-succ' 128 k) ∙ sym (mul_assoc weight 128 (128 ^ k)) in
    let some : 1 ≤ 128 ^ k = one-le-pow k 128 (lit< tt) in
    let up : weight * 128 ≤ weight * 128 * 128 ^ k = le-mul_of_pos_right (weight * 128) some in
    omega (arith, up, split, is)

pub next_weight : (weight more : ℕ) → weight * 128 ^ more ≡ 2 ^ 63 → more ≢ 0 → weight * 128 * 128 ^ (more - 1) ≡ 2 ^ 63
next_weight weight zero is ne = absurd (ne refl)
next_weight weight (suc k) is ne =
    let e : suc k - 1 ≡ k = omega arith in
    rw e (mul_assoc weight 128 (128 ^ k) ∙ ap (λ n. weight * n) (sym (pow-succ' 128 k)) ∙ is)

-- a byte's seven bits stay below the next weight
pub digit_fits : (low weight digit : ℕ) → low < weight → digit < 128 → low + weight * digit < weight * 128
digit_fits low weight digit below lt =
    let most : weight * digit ≤ weight * 127 = mul-le-mul_left weight (omega arith) in
    omega (arith, most)

-- what stands behind the first byte, as a slice pattern names it
abbrev pub behind : List ℕ → List ℕ
behind bytes = take (length bytes - 1) (drop 1 bytes)

whole : (b : ℕ) (rest : List ℕ) → behind (b ∷ rest) ≡ rest
whole b rest = take_all (length (b ∷ rest) - 1) rest (omega arith)

pub last_byte : (more : ℕ) (bytes : List ℕ) → more ≢ 0 → 1 ≤ length bytes → get_or bytes 0 0 < 128 → IsNumber more bytes (get_or bytes 0 0) (behind bytes)
unfolding number_at
last_byte zero bytes ne some low at = absurd (ne refl)
last_byte (suc k) (b ∷ rest) ne some low at = rw (whole b rest, lt-ltb _ _ low) refl
last_byte (suc k) [] ne some low at = absurd (omega arith)

pub more_bytes : (more : ℕ) (bytes : List ℕ) (n : ℕ) (tail : List ℕ) → more ≢ 0 → 1 ≤ length bytes → 128 ≤ get_or bytes 0 0 → IsNumber (more - 1) (behind bytes) n tail
    → IsNumber more bytes (get_or bytes 0 0 - 128 + 128 * n) tail
unfolding number_at
more_bytes zero bytes n tail ne some high read at = absurd (ne refl)
more_bytes (suc k) (b ∷ rest) n tail ne some high read at =
    let e : suc k - 1 ≡ k = omega arith in
    let next : number_at k (at + 1) rest ≡ Ok (n, tail) = ap (λ m. number_at m (at + 1) rest) (sym e) ∙ ap (number_at (suc k - 1) (at + 1)) (sym (whole b rest)) ∙ read (at + 1) in
    rw (le-ltb _ _ high, next) refl
more_bytes (suc k) [] n tail ne some high read at = absurd (omega arith)

pub goes_on : (low weight more : ℕ) (bytes rest : List ℕ) → Begun low weight more bytes rest → more ≢ 0 → 1 ≤ length rest → 128 ≤ get_or rest 0 0 → get_or rest 0 0 < 256
    → Begun (low + weight * (get_or rest 0 0 - 128)) (weight * 128) (more - 1) bytes (behind rest)
goes_on low weight more bytes rest begun ne some high fits =
    let digit = get_or rest 0 0 - 128 in
    let sums : (n : ℕ) → low + weight * digit + weight * 128 * n ≡ low + weight * (digit + 128 * n) = λ (n : ℕ). omega (arith, mul-add weight digit (128 * n), mul_assoc weight 128 n) in
    record {
      weights = next_weight weight more begun.weights ne;
      below = digit_fits low weight digit begun.below (omega arith);
      read = λ n tail is. subst (λ (m : ℕ). IsNumber 9 bytes m tail) (sym (sums n)) (begun.read (digit + 128 * n) tail (more_bytes more rest n tail ne some high is));
    }

pub begins : (bytes : List ℕ) → Begun 0 1 9 bytes bytes
begins bytes =
    let same : (n : ℕ) → n ≡ 0 + 1 * n = λ (n : ℕ). omega arith in
    record { weights = refl; below = omega arith; read = λ n tail is. subst (λ (m : ℕ). IsNumber 9 bytes m tail) (same n) is }

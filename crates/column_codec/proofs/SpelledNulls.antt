-- A bitmap that is read is the one spelling of its nulls.
use Rattle.std.proofs.Common.{◌≡◌, ℕ, zero, suc, ◌+◌, ◌-◌, ◌*◌, ◌/◌, ◌%◌, ◌^◌, ◌<◌, ◌≤◌, Bool, true, false, not, cond, ltb, eqb, List, [], ◌∷◌, ◌++◌, length, take, drop, get_or, Ok, Err, refl, sym, ap, ◌∙◌, subst, arith, inl, inr, drop-cons, length-take}
use Rattle.std.specs.Prelude.{slice_index, ◌||◌, nat_le}
use Rattle.std.specs.List.{list_all}
use Rattle.std.proofs.lemmas.Bool.{cases_lt, ltb-false, false_from_ne_true}
use Rattle.std.proofs.lemmas.List.{drop_all, get_or_past, take-append-drop}
use Rattle.std.proofs.lemmas.Nat.Bits.{bit_at-zero, bit_at_above}
use Rattle.column_codec.specs.Laws.{AreBytes}
use Rattle.column_codec.specs.Numbers.{bad_at}
use Rattle.column_codec.specs.Nulls.{is_null, nulls_from, flag_at, bitmap_len, is_no_bitmap, bits_at, bitmap_at}
use Rattle.column_codec.specs.Spelling as spelling
use Rattle.column_codec.proofs.ValueSteps.{ok_is}
use Rattle.column_codec.proofs.SpelledNumbers.{bind_ok, guard_ok}

null_at : (bitmap : List ℕ) (i count m : ℕ) → m < count → get_or (nulls_from bitmap i count) m false ≡ is_null bitmap (i + m)
null_at bitmap i zero m lt = absurd (omega arith)
null_at bitmap i (suc count) zero lt = let k : i ≡ i + 0 = omega arith in ap (is_null bitmap) k
null_at bitmap i (suc count) (suc m) lt =
    let k : i + 1 + m ≡ i + suc m = omega arith in
    null_at bitmap (i + 1) count m (omega arith) ∙ ap (is_null bitmap) k

pub nulls_len : (bitmap : List ℕ) (i count : ℕ) → length (nulls_from bitmap i count) ≡ count
nulls_len bitmap i zero = refl
nulls_len bitmap i (suc count) = ap suc (nulls_len bitmap (i + 1) count)

-- so many bytes, of which the last has no spare bit
record IsBitmap (bitmap : List ℕ) (count : ℕ) : Type 0 where
  len : length bitmap ≡ bitmap_len count
  last : slice_index bitmap (length bitmap - 1) < 2 ^ (count - 8 * (length bitmap - 1))

bit_value : (m : ℕ) → cond (eqb (m % 2) 1) 1 0 ≡ m % 2
bit_value m = elim (cases_lt (m % 2) 1) [
  | inl low ↦ let e : eqb (m % 2) 1 ≡ false = grind arith in rw e (omega arith)
  | inr high ↦ let e : eqb (m % 2) 1 ≡ true = grind arith in rw e (omega arith)
]

bit_found : (bitmap : List ℕ) (count j k : ℕ) → IsBitmap bitmap count → j < length bitmap → k < 8 → spelling.bit (nulls_from bitmap 0 count) (8 * j + k) ≡ slice_index bitmap j / 2 ^ k % 2
bit_found bitmap count j k is lt small =
    let nulls = nulls_from bitmap 0 count in
    elim (cases_lt (8 * j + k) count) [
      | inl within ↦
          let a : 0 + (8 * j + k) ≡ 8 * j + k = omega arith in
          let b : (8 * j + k) / 8 ≡ j = omega arith in
          let d : (8 * j + k) % 8 ≡ k = omega arith in
          ap (λ x. cond x 1 0) (null_at bitmap 0 count (8 * j + k) within ∙ ap (is_null bitmap) a)
          ∙ ap (λ p. cond (eqb (slice_index bitmap p / 2 ^ ((8 * j + k) % 8) % 2) 1) 1 0) b
          ∙ ap (λ r. cond (eqb (slice_index bitmap j / 2 ^ r % 2) 1) 1 0) d
          ∙ bit_value (slice_index bitmap j / 2 ^ k)
      | inr past ↦
          let at_end : length bitmap - 1 ≡ j = omega (arith, is.len) in
          let below : slice_index bitmap j < 2 ^ (count - 8 * j) = subst (λ l. slice_index bitmap l < 2 ^ (count - 8 * l)) at_end is.last in
          ap (λ x. cond x 1 0) (get_or_past nulls (8 * j + k) false (omega (arith, nulls_len bitmap 0 count)))
          ∙ sym (bit_at_above (slice_index bitmap j) (count - 8 * j) k below (omega arith))
    ]

sum_of_bits : (b : ℕ) → b < 256 → b % 2 + 2 * (b / 2 % 2) + 4 * (b / 4 % 2) + 8 * (b / 8 % 2) + 16 * (b / 16 % 2) + 32 * (b / 32 % 2) + 64 * (b / 64 % 2) + 128 * (b / 128 % 2) ≡ b
sum_of_bits b lt = omega arith

byte_found : (bitmap : List ℕ) (count j : ℕ) → AreBytes bitmap → IsBitmap bitmap count → j < length bitmap → spelling.byte (nulls_from bitmap 0 count) (8 * j) ≡ slice_index bitmap j
unfolding spelling.byte
byte_found bitmap count j are is lt =
    let b = slice_index bitmap j in
    let bit = bit_found bitmap count j in
    let zero_is : 8 * j ≡ 8 * j + 0 = omega arith in
    let first : spelling.bit (nulls_from bitmap 0 count) (8 * j) ≡ b / 1 % 2 = ap (spelling.bit (nulls_from bitmap 0 count)) zero_is ∙ bit 0 is lt (omega arith) in
    let byte : b < 256 = are j in
    omega (arith, sum_of_bits b byte, first, bit 1 is lt (omega arith), bit 2 is lt (omega arith), bit 3 is lt (omega arith), bit 4 is lt (omega arith), bit 5 is lt (omega arith), bit 6 is lt (omega arith), bit 7 is lt (omega arith))

bytes_found : (bitmap : List ℕ) (count j n : ℕ) → AreBytes bitmap → IsBitmap bitmap count → j + n ≡ length bitmap → spelling.bytes_from (nulls_from bitmap 0 count) j n ≡ drop j bitmap
bytes_found bitmap count j zero are is e = sym (drop_all j bitmap (omega (arith, e)))
bytes_found bitmap count j (suc n) are is e =
    let nulls = nulls_from bitmap 0 count in
    let lt : j < length bitmap = omega (arith, e) in
    let k : j + 1 ≡ suc j = omega arith in
    ap (λ b. b ∷ spelling.bytes_from nulls (j + 1) n) (byte_found bitmap count j are is lt)
    ∙ ap (λ (bs : List ℕ). slice_index bitmap j ∷ bs) (bytes_found bitmap count (j + 1) n are is (omega (arith, e)) ∙ ap (λ i. drop i bitmap) k)
    ∙ sym (drop-cons bitmap j 0 lt)

not_null : (nulls : List Bool) (i : ℕ) → list_all not nulls ≡ true → get_or nulls i false ≡ false
not_null [] zero h = refl
not_null [] (suc i) h = refl
not_null (true ∷ nulls) i h = absurd cc
not_null (false ∷ nulls) zero h = refl
not_null (false ∷ nulls) (suc i) h = not_null nulls i h

zero_byte : (nulls : List Bool) (i : ℕ) → list_all not nulls ≡ true → spelling.byte nulls i ≡ 0
unfolding spelling.byte
zero_byte nulls i h =
    let bit : (k : ℕ) → spelling.bit nulls k ≡ 0 = λ k. ap (λ b. cond b 1 0) (not_null nulls k h) in
    omega (arith, bit i, bit (i + 1), bit (i + 2), bit (i + 3), bit (i + 4), bit (i + 5), bit (i + 6), bit (i + 7))

zero_bytes : (nulls : List Bool) (j n : ℕ) → list_all not nulls ≡ true → list_all (λ b. eqb b 0) (spelling.bytes_from nulls j n) ≡ true
zero_bytes nulls j zero h = refl
zero_bytes nulls j (suc n) h = rw (zero_byte nulls (8 * j) h) (zero_bytes nulls (j + 1) n h)

none_null : (count i : ℕ) → list_all not (nulls_from [] i count) ≡ true
none_null zero i = refl
none_null (suc count) i =
    let never : is_null [] i ≡ false = ap (λ b. eqb b 1) (bit_at-zero (i % 8)) in
    rw never (none_null count (i + 1))

or_false : (a b : Bool) → (a || b) ≡ false → (a ≡ false) × (b ≡ false)
or_false false b e = (refl, e)
or_false true b e = absurd cc

nothing : (i : ℕ) → slice_index [] i < 256
nothing zero = omega arith
nothing (suc i) = omega arith

are_front : (n : ℕ) (bytes : List ℕ) → AreBytes bytes → AreBytes (take n bytes)
are_front zero bytes are i = nothing i
are_front (suc n) [] are i = are i
are_front (suc n) (b ∷ bytes) are zero = are 0
are_front (suc n) (b ∷ bytes) are (suc i) = are_front n bytes (λ k. are (suc k)) i

bits_found : (end count : ℕ) (bytes : List ℕ) (x : List ℕ × List ℕ) → AreBytes bytes → 1 ≤ count → bits_at end count bytes ≡ Ok x → 1 ∷ bytes ≡ spelling.null_part (nulls_from x.0 0 count) ++ x.1
unfolding bits_at spelling.null_part
bits_found end count bytes x are some h =
    let len = bitmap_len count in
    let bitmap = take len bytes in
    let g = guard_ok (ltb (length bytes) len) _ _ x h in
    let long : len ≤ length bytes = ltb-false _ _ g.0 in
    let k = guard_ok (is_no_bitmap count bitmap) _ _ x g.1 in
    let both = or_false (nat_le (2 ^ (count - 8 * (length bitmap - 1))) (slice_index bitmap (length bitmap - 1))) (list_all (λ b. eqb b 0) bitmap) k.0 in
    let size : length bitmap ≡ len = omega (arith, length-take len bytes) in
    let is : IsBitmap bitmap count = record { len = size; last = grind (arith, both.0) } in
    let nulls = nulls_from bitmap 0 count in
    let are_bits = are_front len bytes are in
    let written : spelling.bitmap nulls ≡ bitmap = ap (λ n. spelling.bytes_from nulls 0 (bitmap_len n)) (nulls_len bitmap 0 count) ∙ bytes_found bitmap count 0 len are_bits is (omega (arith, size)) in
    let null : list_all not nulls ≡ false = false_from_ne_true (list_all not nulls) (λ all. absurd (cc (sym both.1 ∙ ap (list_all (λ b. eqb b 0)) (sym written) ∙ zero_bytes nulls 0 (bitmap_len (length nulls)) all))) in
    let same = ok_is (bitmap, drop len bytes) x k.1 in
    let parts : 1 ∷ bytes ≡ cond (list_all not nulls) (0 ∷ []) (1 ∷ spelling.bitmap nulls) ++ drop len bytes = rw (null, written) (ap (λ (bs : List ℕ). 1 ∷ bs) (sym (take-append-drop len bytes))) in
    subst (λ p. 1 ∷ bytes ≡ cond (list_all not (nulls_from p.0 0 count)) (0 ∷ []) (1 ∷ spelling.bitmap (nulls_from p.0 0 count)) ++ p.1) same parts

pub flag_found : (end : ℕ) (bytes : List ℕ) (x : ℕ × List ℕ) → flag_at end bytes ≡ Ok x → (bytes ≡ x.0 ∷ x.1) × (x.0 ≤ 1)
unfolding flag_at
flag_found end [] x h = absurd cc
flag_found end (b ∷ rest) x h =
    let g = guard_ok (ltb 1 b) (bad_at end (b ∷ rest)) (Ok (b, rest)) x h in
    let same = ok_is (b, rest) x g.1 in
    let le : b ≤ 1 = ltb-false _ _ g.0 in
    (ap (λ p. p.0 ∷ p.1) same, subst (λ p. p.0 ≤ 1) same le)

by_flag : (b : Bool) (end count : ℕ) (bytes : List ℕ) (flag : ℕ) (rest : List ℕ) (x : List ℕ × List ℕ) → AreBytes rest → flag ≤ 1 → eqb flag 0 ≡ b → bytes ≡ flag ∷ rest
    → cond b (Ok ([], rest)) (cond (eqb count 0) (Err (bad_at end bytes)) (bits_at end count rest)) ≡ Ok x → bytes ≡ spelling.null_part (nulls_from x.0 0 count) ++ x.1
unfolding spelling.null_part
by_flag true end count bytes flag rest x are le zero_is is h =
    let same = ok_is ([], rest) x h in
    let flag_is : flag ≡ 0 = grind (arith, zero_is) in
    let parts : bytes ≡ cond (list_all not (nulls_from [] 0 count)) (0 ∷ []) (1 ∷ spelling.bitmap (nulls_from [] 0 count)) ++ rest = rw (none_null count 0) (is ∙ ap (λ f. f ∷ rest) flag_is) in
    subst (λ p. bytes ≡ cond (list_all not (nulls_from p.0 0 count)) (0 ∷ []) (1 ∷ spelling.bitmap (nulls_from p.0 0 count)) ++ p.1) same parts
by_flag false end count bytes flag rest x are le one_is is h =
    let g = guard_ok (eqb count 0) (bad_at end bytes) (bits_at end count rest) x h in
    let some : 1 ≤ count = grind (arith, g.0) in
    let flag_is : flag ≡ 1 = grind (arith, one_is, le) in
    is ∙ ap (λ f. f ∷ rest) flag_is ∙ bits_found end count rest x are some g.1

pub bitmap_found : (end count : ℕ) (bytes : List ℕ) (x : List ℕ × List ℕ) → AreBytes bytes → bitmap_at end count bytes ≡ Ok x → bytes ≡ spelling.null_part (nulls_from x.0 0 count) ++ x.1
unfolding bitmap_at
bitmap_found end count bytes x are h =
    let a = bind_ok (flag_at end bytes) _ x h in
    let f = flag_found end bytes a.0 a.1 in
    let behind : AreBytes a.0.1 = λ i. subst AreBytes f.0 are (suc i) in
    by_flag (eqb a.0.0 0) end count bytes a.0.0 a.0.1 x behind f.1 refl f.0 a.2

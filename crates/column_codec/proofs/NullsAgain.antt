-- Nulls that are written are read again.
use Rattle.std.proofs.Common.{◌≡◌, ℕ, zero, suc, ◌+◌, ◌-◌, ◌*◌, ◌/◌, ◌%◌, ◌^◌, ◌<◌, ◌≤◌, Bool, true, false, not, cond, ltb, eqb, List, [], ◌∷◌, ◌++◌, length, take, drop, get_or, Ok, refl, sym, ap, ◌∙◌, arith, length-append, drop-cons}
use Rattle.std.specs.Prelude.{slice_index, nat_le}
use Rattle.std.specs.List.{list_all}
use Rattle.std.proofs.lemmas.Bool.{le-ltb}
use Rattle.std.proofs.lemmas.List.{take_at, drop_all, get_or_past}
use Rattle.column_codec.proofs.Again.{both_true}
use Rattle.std.proofs.lemmas.Nat.Bits.{bit_at-zero}
use Rattle.std.proofs.Math.Seq.{drop-append_seam}
use Rattle.column_codec.specs.Nulls.{is_null, nulls_from, flag_at, bitmap_len, is_no_bitmap, bits_at, bitmap_at}
use Rattle.column_codec.specs.Spelling as spelling

bytes_len : (nulls : List Bool) (j n : ℕ) → length (spelling.bytes_from nulls j n) ≡ n
bytes_len nulls j zero = refl
bytes_len nulls j (suc n) = ap suc (bytes_len nulls (j + 1) n)

byte_at : (nulls : List Bool) (j n m : ℕ) → m < n → slice_index (spelling.bytes_from nulls j n) m ≡ spelling.byte nulls (8 * (j + m))
byte_at nulls j zero m lt = absurd (omega arith)
byte_at nulls j (suc n) zero lt = let k : j ≡ j + 0 = omega arith in ap (λ i. spelling.byte nulls (8 * i)) k
byte_at nulls j (suc n) (suc m) lt =
    let k : j + 1 + m ≡ j + suc m = omega arith in
    byte_at nulls (j + 1) n m (omega arith) ∙ ap (λ i. spelling.byte nulls (8 * i)) k

by_eight : (P : ℕ → Type 0) → P 0 → P 1 → P 2 → P 3 → P 4 → P 5 → P 6 → P 7 → (k : ℕ) → k < 8 → P k
by_eight P a b c d e f g h zero lt = a
by_eight P a b c d e f g h (suc zero) lt = b
by_eight P a b c d e f g h (suc (suc zero)) lt = c
by_eight P a b c d e f g h (suc (suc (suc zero))) lt = d
by_eight P a b c d e f g h (suc (suc (suc (suc zero)))) lt = e
by_eight P a b c d e f g h (suc (suc (suc (suc (suc zero))))) lt = f
by_eight P a b c d e f g h (suc (suc (suc (suc (suc (suc zero)))))) lt = g
by_eight P a b c d e f g h (suc (suc (suc (suc (suc (suc (suc zero))))))) lt = h
by_eight P a b c d e f g h (suc (suc (suc (suc (suc (suc (suc (suc k)))))))) lt = absurd (omega arith)

small : (b : Bool) → cond b 1 0 ≤ 1
small true = omega arith
small false = omega arith

bit_small : (nulls : List Bool) (i : ℕ) → spelling.bit nulls i ≤ 1
bit_small nulls i = small (get_or nulls i false)

byte_bit : (nulls : List Bool) (i k : ℕ) → k < 8 → spelling.byte nulls i / 2 ^ k % 2 ≡ spelling.bit nulls (i + k)
unfolding spelling.byte
byte_bit nulls i k lt =
    let a = bit_small nulls i in
    let b = bit_small nulls (i + 1) in
    let c = bit_small nulls (i + 2) in
    let d = bit_small nulls (i + 3) in
    let e = bit_small nulls (i + 4) in
    let f = bit_small nulls (i + 5) in
    let g = bit_small nulls (i + 6) in
    let h = bit_small nulls (i + 7) in
    let zero_is : i ≡ i + 0 = omega arith in
    by_eight (λ k. spelling.byte nulls i / 2 ^ k % 2 ≡ spelling.bit nulls (i + k))
    ((omega (arith, a, b, c, d, e, f, g, h)) ∙ ap (spelling.bit nulls) zero_is)
    (omega (arith, a, b, c, d, e, f, g, h)) (omega (arith, a, b, c, d, e, f, g, h)) (omega (arith, a, b, c, d, e, f, g, h)) (omega (arith, a, b, c, d, e, f, g, h))
    (omega (arith, a, b, c, d, e, f, g, h)) (omega (arith, a, b, c, d, e, f, g, h)) (omega (arith, a, b, c, d, e, f, g, h)) k lt

bit_is : (b : Bool) → eqb (cond b 1 0) 1 ≡ b
bit_is true = refl
bit_is false = refl

null_again : (nulls : List Bool) (i : ℕ) → i < length nulls → is_null (spelling.bitmap nulls) i ≡ get_or nulls i false
null_again nulls i lt =
    let at = byte_at nulls 0 (bitmap_len (length nulls)) (i / 8) (omega arith) in
    let zero_is : 0 + i / 8 ≡ i / 8 = omega arith in
    let place : 8 * (i / 8) + i % 8 ≡ i = omega arith in
    let bit : slice_index (spelling.bitmap nulls) (i / 8) / 2 ^ (i % 8) % 2 ≡ spelling.bit nulls i =
    ap (λ b. b / 2 ^ (i % 8) % 2) (at ∙ ap (λ j. spelling.byte nulls (8 * j)) zero_is) ∙ byte_bit nulls (8 * (i / 8)) (i % 8) (omega arith) ∙ ap (spelling.bit nulls) place in
    ap (λ b. eqb b 1) bit ∙ bit_is (get_or nulls i false)

again_from : (nulls : List Bool) (i n : ℕ) → i + n ≡ length nulls → nulls_from (spelling.bitmap nulls) i n ≡ drop i nulls
again_from nulls i zero e = sym (drop_all i nulls (omega (arith, e)))
again_from nulls i (suc n) e =
    let lt : i < length nulls = omega (arith, e) in
    let k : suc i ≡ i + 1 = omega arith in
    let others : nulls_from (spelling.bitmap nulls) (i + 1) n ≡ drop (suc i) nulls = again_from nulls (i + 1) n (omega (arith, e)) ∙ ap (λ j. drop j nulls) (sym k) in
    ap (λ b. b ∷ nulls_from (spelling.bitmap nulls) (i + 1) n) (null_again nulls i lt) ∙ ap (λ bs. get_or nulls i false ∷ bs) others ∙ sym (drop-cons nulls i false lt)

none_again : (nulls : List Bool) (i : ℕ) → list_all not nulls ≡ true → nulls_from [] i (length nulls) ≡ nulls
none_again [] i h = refl
none_again (true ∷ nulls) i h = absurd cc
none_again (false ∷ nulls) i h =
    let no : is_null [] i ≡ false = ap (λ b. eqb b 1) (bit_at-zero (i % 8)) in
    ap (λ b. b ∷ nulls_from [] (i + 1) (length nulls)) no ∙ ap (λ bs. false ∷ bs) (none_again nulls (i + 1) h)

-- ---- the bitmap is one

no_bit : (nulls : List Bool) (i : ℕ) → length nulls ≤ i → spelling.bit nulls i ≡ 0
no_bit nulls i le = ap (λ b. cond b 1 0) (get_or_past nulls i false le)

spare_zero : (nulls : List Bool) (i used : ℕ) → 1 ≤ used → used ≤ 8 → length nulls ≡ i + used → spelling.byte nulls i < 2 ^ used
unfolding spelling.byte
spare_zero nulls i used least most len =
    let a = bit_small nulls i in
    let b = bit_small nulls (i + 1) in
    let c = bit_small nulls (i + 2) in
    let d = bit_small nulls (i + 3) in
    let e = bit_small nulls (i + 4) in
    let f = bit_small nulls (i + 5) in
    let g = bit_small nulls (i + 6) in
    let h = bit_small nulls (i + 7) in
    let none : (k : ℕ) → used ≤ k → spelling.bit nulls (i + k) ≡ 0 = λ k le. no_bit nulls (i + k) (omega (arith, len)) in
    let bound : (m : ℕ) → m < 8 → used ≡ suc m → spelling.byte nulls i < 2 ^ suc m =
    by_eight (λ m. used ≡ suc m → spelling.byte nulls i < 2 ^ suc m)
    (λ u. omega (arith, a, none 1 (omega (arith, u)), none 2 (omega (arith, u)), none 3 (omega (arith, u)), none 4 (omega (arith, u)), none 5 (omega (arith, u)), none 6 (omega (arith, u)), none 7 (omega (arith, u))))
    (λ u. omega (arith, a, b, none 2 (omega (arith, u)), none 3 (omega (arith, u)), none 4 (omega (arith, u)), none 5 (omega (arith, u)), none 6 (omega (arith, u)), none 7 (omega (arith, u))))
    (λ u. omega (arith, a, b, c, none 3 (omega (arith, u)), none 4 (omega (arith, u)), none 5 (omega (arith, u)), none 6 (omega (arith, u)), none 7 (omega (arith, u))))
    (λ u. omega (arith, a, b, c, d, none 4 (omega (arith, u)), none 5 (omega (arith, u)), none 6 (omega (arith, u)), none 7 (omega (arith, u))))
    (λ u. omega (arith, a, b, c, d, e, none 5 (omega (arith, u)), none 6 (omega (arith, u)), none 7 (omega (arith, u))))
    (λ u. omega (arith, a, b, c, d, e, f, none 6 (omega (arith, u)), none 7 (omega (arith, u))))
    (λ u. omega (arith, a, b, c, d, e, f, g, none 7 (omega (arith, u))))
    (λ u. omega (arith, a, b, c, d, e, f, g, h)) in
    let k : used ≡ suc (used - 1) = omega arith in
    rw k (bound (used - 1) (omega arith) k)

some_null : (nulls : List Bool) → list_all not nulls ≡ false → (i : ℕ) × (i < length nulls) × (get_or nulls i false ≡ true)
some_null [] h = absurd cc
some_null (true ∷ nulls) h = (0, omega arith, refl)
some_null (false ∷ nulls) h = let s = some_null nulls h in (suc s.0, omega (arith, s.1), s.2)

zero_at : (bytes : List ℕ) (m : ℕ) → list_all (λ b. eqb b 0) bytes ≡ true → slice_index bytes m ≡ 0
zero_at [] zero h = refl
zero_at [] (suc m) h = refl
zero_at (b ∷ bytes) zero h = let e : eqb b 0 ≡ true = (both_true (eqb b 0) (list_all (λ b. eqb b 0) bytes) h).0 in grind arith
zero_at (b ∷ bytes) (suc m) h = zero_at bytes m (both_true (eqb b 0) (list_all (λ b. eqb b 0) bytes) h).1

not_true : (b : Bool) → (b ≡ true → ⊥) → b ≡ false
not_true b never = elim b as (λ x. (x ≡ true → ⊥) → x ≡ false) [
  | true ↦ λ h. absurd (h refl)
  | false ↦ λ h. refl
] never

not_zero : (nulls : List Bool) → list_all not nulls ≡ false → list_all (λ b. eqb b 0) (spelling.bitmap nulls) ≡ false
not_zero nulls h = not_true _ (λ all.
    let s = some_null nulls h in
    let null : is_null (spelling.bitmap nulls) s.0 ≡ true = null_again nulls s.0 s.1 ∙ s.2 in
    let z : slice_index (spelling.bitmap nulls) (s.0 / 8) ≡ 0 = zero_at (spelling.bitmap nulls) (s.0 / 8) all in
    let no : is_null (spelling.bitmap nulls) s.0 ≡ false = ap (λ b. eqb (b / 2 ^ (s.0 % 8) % 2) 1) z ∙ ap (λ b. eqb b 1) (bit_at-zero (s.0 % 8)) in
    absurd (cc (sym null ∙ no)))

-- what is written behind the mode is read again
pub nulls_part : List Bool → List ℕ
nulls_part nulls = cond (list_all not nulls) [] (spelling.bitmap nulls)

nonempty : (nulls : List Bool) → list_all not nulls ≡ false → 1 ≤ length nulls
nonempty nulls h = let s = some_null nulls h in omega (arith, s.1)

bits_again : (end : ℕ) (nulls : List Bool) (rest : List ℕ) → list_all not nulls ≡ false → bits_at end (length nulls) (spelling.bitmap nulls ++ rest) ≡ Ok (spelling.bitmap nulls, rest)
unfolding bits_at
bits_again end nulls rest h =
    let count = length nulls in
    let len = bitmap_len count in
    let bitmap = spelling.bitmap nulls in
    let some = nonempty nulls h in
    let size : length bitmap ≡ len = bytes_len nulls 0 len in
    let long : ltb (length (bitmap ++ rest)) len ≡ false = le-ltb _ _ (omega (arith, length-append bitmap rest, size)) in
    let front : take len (bitmap ++ rest) ≡ bitmap = take_at bitmap rest len size in
    let behind : drop len (bitmap ++ rest) ≡ rest = ap (λ k. drop k (bitmap ++ rest)) (sym size) ∙ drop-append_seam bitmap rest in
    let last = length bitmap - 1 in
    let zero_is : 0 + last ≡ last = omega arith in
    let at : slice_index bitmap last ≡ spelling.byte nulls (8 * last) = byte_at nulls 0 len last (omega (arith, size)) ∙ ap (λ j. spelling.byte nulls (8 * j)) zero_is in
    let spare : spelling.byte nulls (8 * last) < 2 ^ (count - 8 * last) = spare_zero nulls (8 * last) (count - 8 * last) (omega (arith, size)) (omega (arith, size)) (omega (arith, size)) in
    let one : nat_le (2 ^ (count - 8 * last)) (slice_index bitmap last) ≡ false = grind (arith, at, spare) in
    let no : is_no_bitmap count bitmap ≡ false = rw (one) (not_zero nulls h) in
    rw (long, front, no, behind) refl

by_nulls : (b : Bool) (end : ℕ) (nulls : List Bool) (rest : List ℕ) → list_all not nulls ≡ b → bitmap_at end (length nulls) (cond b (0 ∷ []) (1 ∷ spelling.bitmap nulls) ++ rest) ≡ Ok (cond b [] (spelling.bitmap nulls), rest)
unfolding bitmap_at flag_at
by_nulls true end nulls rest h = refl
by_nulls false end nulls rest h =
    let some = nonempty nulls h in
    let e : eqb (length nulls) 0 ≡ false = grind (arith, some) in
    rw e (bits_again end nulls rest h)

pub bitmap_again : (end : ℕ) (nulls : List Bool) (rest : List ℕ) → bitmap_at end (length nulls) (spelling.null_part nulls ++ rest) ≡ Ok (nulls_part nulls, rest)
unfolding spelling.null_part nulls_part
bitmap_again end nulls rest = by_nulls (list_all not nulls) end nulls rest refl

by_all : (b : Bool) (nulls : List Bool) → list_all not nulls ≡ b → nulls_from (cond b [] (spelling.bitmap nulls)) 0 (length nulls) ≡ nulls
by_all true nulls h = none_again nulls 0 h
by_all false nulls h = again_from nulls 0 (length nulls) (omega arith)

pub nulls_again : (nulls : List Bool) → nulls_from (nulls_part nulls) 0 (length nulls) ≡ nulls
unfolding nulls_part
nulls_again nulls = by_all (list_all not nulls) nulls refl

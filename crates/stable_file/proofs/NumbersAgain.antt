-- The numbers of an entry that is written are read again.
use Rattle.std.proofs.Common.{◌≡◌, ℕ, ℤ, pos, negsuc, ◌^◌, ◌<◌, Bool, true, false, ltb, List, [], ◌∷◌, ◌++◌, length, Ok, refl, ap, ◌∙◌, append_assoc, arith}
use Rattle.std.specs.Prelude.{FitsSigned, int_lt}
use Rattle.std.specs.Int.{w8, w64, to_be_bytes, from_be_bytes, cast_signed, cast_unsigned}
use Rattle.std.proofs.lemmas.Bool.{le-ltb}
use Rattle.std.proofs.lemmas.Int.{to_z-of_z}
use Rattle.std.proofs.Math.Facts.{Fits-of_z}
use Rattle.std.proofs.Math.Nat.{mod-eq_of_lt}
use Rattle.flash_list.specs.Fields.{number_at}
use Rattle.column_block.specs.declared.column.Kind.{Kind}
use Rattle.column_block.specs.declared.column.Kind.TheVariants as kind
use Rattle.column_block.specs.declared.column.MinMax.{MinMax}
use Rattle.column_block.specs.declared.column.MinMax.TheVariants.{Empty, Of}
use Rattle.pack_codec.proofs.FieldsAgain.{u64_again}
use Rattle.pack_codec.specs.declared.fault.FormError.TheVariants.{Damaged}
use Rattle.stable_file.specs.Footer.{number_of, greatest_at, both_at, numbers_at, handle_at}
use Rattle.stable_file.specs.Building.{bits, number, numbers, handle}

-- ---- a number in 64 bits

pub bits_signed : (z : ℤ) → FitsSigned w64 z → bits z ≡ cast_unsigned w64 z
unfolding bits
bits_signed (pos n) fits = omega (arith, fits.sfits)
bits_signed (negsuc n) fits = omega (arith, fits.sfits)

bits_below : (z : ℤ) → bits z < 2 ^ 64
unfolding bits
bits_below z = omega arith

-- a number of a column's kind
abbrev pub InKind : Kind → ℤ → Type 0
InKind kind.Int z = FitsSigned w64 z
InKind kind.Uint (pos n) = n < 2 ^ 64
InKind kind.Uint (negsuc n) = ⊥
InKind kind.Bytes z = ⊥

number_back : (kd : Kind) (z : ℤ) → InKind kd z → number_of kd (bits z) ≡ z
unfolding bits
number_back kind.Int z fits = ap (cast_signed w64) (bits_signed z fits) ∙ to_z-of_z w64 z fits
number_back kind.Uint (pos n) fits = ap pos (mod-eq_of_lt fits)
number_back kind.Uint (negsuc n) fits = absurd fits
number_back kind.Bytes z fits = absurd fits

-- ---- a range

-- numbers of the kind, of which the least isn't above the greatest
abbrev pub RangeInKind : Kind → MinMax → Type 0
RangeInKind kd Empty = Unit {0}
RangeInKind kd (Of least greatest) = InKind kd least × InKind kd greatest × (int_lt greatest least ≡ false)

greatest_again : (kd : Kind) (end : ℕ) (least greatest : ℤ) (rest : List ℕ) → InKind kd greatest → int_lt greatest least ≡ false → greatest_at kd end least (number greatest ++ rest) ≡ Ok (Of least greatest, rest)
unfolding greatest_at number
greatest_again kd end least greatest rest fits order = rw (u64_again (Damaged end) (bits greatest) rest (bits_below greatest), number_back kd greatest fits, order) refl

both_again : (kd : Kind) (end : ℕ) (least greatest : ℤ) (rest : List ℕ) → InKind kd least → InKind kd greatest → int_lt greatest least ≡ false → both_at kd end (number least ++ (number greatest ++ rest)) ≡ Ok (Of least greatest, rest)
unfolding both_at number
both_again kd end least greatest rest low high order = rw (u64_again (Damaged end) (bits least) (to_be_bytes w64 (bits greatest) ++ rest) (bits_below least), number_back kd least low) (greatest_again kd end least greatest rest high order)

flag_again : (end n : ℕ) (rest : List ℕ) → from_be_bytes w8 (n ∷ []) ≡ n → number_at w8 (Damaged end) (n ∷ rest) ≡ Ok (n, rest)
unfolding number_at
flag_again end n rest is =
    let long : ltb (length (n ∷ rest)) 1 ≡ false = le-ltb _ _ (omega arith) in
    rw (long, is) refl

pub numbers_again : (kd : Kind) (end : ℕ) (r : MinMax) (rest : List ℕ) → RangeInKind kd r → numbers_at kd end (numbers r ++ rest) ≡ Ok (r, rest)
unfolding numbers_at numbers
numbers_again kd end Empty rest fits = rw (flag_again end 0 rest refl) refl
numbers_again kd end (Of least greatest) rest fits =
    let parts : (number least ++ number greatest) ++ rest ≡ number least ++ (number greatest ++ rest) = append_assoc (number least) (number greatest) rest in
    rw (flag_again end 1 ((number least ++ number greatest) ++ rest) refl, parts) (both_again kd end least greatest rest fits.0 fits.1 fits.2)

-- ---- a handle

pub handle_again : (end : ℕ) (may : ℤ → Bool) (z : ℤ) (rest : List ℕ) → FitsSigned w64 z → may z ≡ true → handle_at end may (handle z ++ rest) ≡ Ok (z, rest)
unfolding handle_at
handle_again end may z rest fits allowed =
    let back : cast_signed w64 (cast_unsigned w64 z) ≡ z = to_z-of_z w64 z fits in
    rw (u64_again (Damaged end) (cast_unsigned w64 z) rest (Fits-of_z {w = w64} {z = z} fits).fits, back, allowed) refl

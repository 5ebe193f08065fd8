-- Fields that are written are read again, whatever follows.
use Rattle.std.proofs.Common.{◌≡◌, ℕ, ℤ, ◌≤◌, false, ltb, List, ◌∷◌, ◌++◌, length, Option, Some, None, Ok, refl, ap, ◌∙◌, append_assoc, arith}
use Rattle.std.specs.Prelude.{FitsSigned}
use Rattle.std.specs.Int.{w8, w64, cast_signed, cast_unsigned}
use Rattle.std.proofs.lemmas.Bool.{le-ltb}
use Rattle.std.proofs.lemmas.Int.{to_z-of_z}
use Rattle.std.proofs.Math.Facts.{Fits-of_z}
use Rattle.flash_list.specs.Fields.{number_at}
use Rattle.flash_types.specs.declared.range.HandleRange.{HandleRange}
use Rattle.log_codec.proofs.Again.{u64_again}
use Rattle.region_file.specs.Fields.{byte_in, handle_at, high_at, range_at}
use Rattle.region_file.specs.Spelling as S
use Rattle.region_file.specs.Spelling.{EndFits}

pub u8_again : {E : Type 0} (fault : E) (n : ℕ) (rest : List ℕ) → number_at w8 fault (n ∷ rest) ≡ Ok (n, rest)
unfolding number_at
u8_again fault n rest =
    let long : ltb (length (n ∷ rest)) 1 ≡ false = le-ltb _ _ (omega arith) in
    rw long refl

pub byte_again : (least greatest end n : ℕ) (rest : List ℕ) → least ≤ n → n ≤ greatest → byte_in least greatest end (n ∷ rest) ≡ Ok (n, rest)
unfolding byte_in
byte_again least greatest end n rest low high =
    let above : ltb n least ≡ false = le-ltb _ _ low in
    let below : ltb greatest n ≡ false = le-ltb _ _ high in
    rw (u8_again _ n rest, above, below) refl

pub handle_again : (end : ℕ) (z : ℤ) (rest : List ℕ) → FitsSigned w64 z → handle_at end (S.handle z ++ rest) ≡ Ok (z, rest)
unfolding handle_at
handle_again end z rest fits =
    let back : cast_signed w64 (cast_unsigned w64 z) ≡ z = to_z-of_z w64 z fits in
    rw (u64_again _ (cast_unsigned w64 z) rest (Fits-of_z {w = w64} {z = z} fits).fits) (ap (λ x. Ok (x, rest)) back)

high_again : (end : ℕ) (high : Option ℤ) (rest : List ℕ) → EndFits high → high_at end (S.high high ++ rest) ≡ Ok (high, rest)
unfolding high_at
high_again end None rest fits = rw (byte_again 0 1 end 0 rest (omega arith) (omega arith)) refl
high_again end (Some z) rest fits = rw (byte_again 0 1 end 1 (S.handle z ++ rest) (omega arith) (omega arith), handle_again end z rest fits) refl

pub range_again : (end : ℕ) (r : HandleRange) (rest : List ℕ) → FitsSigned w64 r.low → EndFits r.high → range_at end (S.range r ++ rest) ≡ Ok (r, rest)
unfolding range_at
range_again end r rest low high =
    let parts : S.range r ++ rest ≡ S.handle r.low ++ (S.high r.high ++ rest) = append_assoc (S.handle r.low) (S.high r.high) rest in
    ap (range_at end) parts ∙ rw (handle_again end r.low (S.high r.high ++ rest) low, high_again end r.high rest high) refl

-- What is written is read again, whatever follows.
use Rattle.std.proofs.Common.{◌≡◌, ℕ, ℤ, zero, suc, ◌+◌, ◌-◌, ◌^◌, ◌<◌, ◌≤◌, Bool, true, false, cond, eqb, ltb, List, [], ◌∷◌, ◌++◌, length, take, drop, Option, Some, None, Result, Ok, Err, refl, sym, ap, ◌∙◌, subst, append_assoc, arith, length-append}
use Rattle.std.specs.Prelude.{◌||◌, FitsSigned, IsTrue}
use Rattle.std.specs.Int.{Width, w16, w32, w64, byte_len, to_be_bytes, from_be_bytes, cast_signed, cast_unsigned}
use Rattle.std.proofs.lemmas.Bool.{ltb-false, le-ltb, lt-ltb}
use Rattle.std.proofs.lemmas.Nat.{from_be_bytes-to_be_bytes_2, from_be_bytes-to_be_bytes_4, from_be_bytes-to_be_bytes_8}
use Rattle.std.proofs.lemmas.Int.{to_z-of_z}
use Rattle.std.proofs.lemmas.List.{take_at}
use Rattle.std.proofs.Math.Seq.{drop-append_seam}
use Rattle.flash_list.specs.Steps.{◌>>=◌, each_at}
use Rattle.flash_list.specs.Fields.{number_at}
use Rattle.log_codec.specs.declared.fault.FrameError.{FrameError}
use Rattle.log_codec.specs.Fields.{passes, number_in, byte_in, bytes_at}

sized_again : {E : Type 0} (width : Width) (fault : E) (field rest : List ℕ) (n : ℕ) → length field ≡ byte_len width → from_be_bytes width field ≡ n → number_at width fault (field ++ rest) ≡ Ok (n, rest)
unfolding number_at
sized_again width fault field rest n size is =
    let long : ltb (length (field ++ rest)) (byte_len width) ≡ false = le-ltb _ _ (omega (arith, length-append field rest)) in
    let front : take (byte_len width) (field ++ rest) ≡ field = take_at field rest (byte_len width) size in
    let behind : drop (byte_len width) (field ++ rest) ≡ rest = ap (λ k. drop k (field ++ rest)) (sym size) ∙ drop-append_seam field rest in
    rw (long, front, behind, is) refl

pub u16_again : {E : Type 0} (fault : E) (n : ℕ) (rest : List ℕ) → n < 2 ^ 16 → number_at w16 fault (to_be_bytes w16 n ++ rest) ≡ Ok (n, rest)
u16_again fault n rest lt = sized_again w16 fault (to_be_bytes w16 n) rest n refl (from_be_bytes-to_be_bytes_2 n lt)

pub u32_again : {E : Type 0} (fault : E) (n : ℕ) (rest : List ℕ) → n < 2 ^ 32 → number_at w32 fault (to_be_bytes w32 n ++ rest) ≡ Ok (n, rest)
u32_again fault n rest lt = sized_again w32 fault (to_be_bytes w32 n) rest n refl (from_be_bytes-to_be_bytes_4 n lt)

pub u64_again : {E : Type 0} (fault : E) (n : ℕ) (rest : List ℕ) → n < 2 ^ 64 → number_at w64 fault (to_be_bytes w64 n ++ rest) ≡ Ok (n, rest)
u64_again fault n rest lt = sized_again w64 fault (to_be_bytes w64 n) rest n refl (from_be_bytes-to_be_bytes_8 n lt)

pub in_again : (width : Width) (least greatest : ℕ) (fault : FrameError) (end : ℕ) (bytes : List ℕ) (n : ℕ) (rest : List ℕ) → number_at width fault bytes ≡ Ok (n, rest) → least ≤ n → n ≤ greatest
    → number_in width least greatest fault end bytes ≡ Ok (n, rest)
unfolding number_in
in_again width least greatest fault end bytes n rest read low high =
    let above : ltb n least ≡ false = le-ltb _ _ low in
    let below : ltb greatest n ≡ false = le-ltb _ _ high in
    rw (read, above, below) refl

pub byte_again : (least greatest : ℕ) (fault : FrameError) (end n : ℕ) (rest : List ℕ) → least ≤ n → n ≤ greatest → byte_in least greatest fault end (n ∷ rest) ≡ Ok (n, rest)
unfolding byte_in
byte_again least greatest fault end n rest low high =
    let above : ltb n least ≡ false = le-ltb _ _ low in
    let below : ltb greatest n ≡ false = le-ltb _ _ high in
    rw (above, below) refl

pub bytes_again : (end : ℕ) (field rest : List ℕ) → bytes_at end (length field) (field ++ rest) ≡ Ok (field, rest)
unfolding bytes_at
bytes_again end field rest =
    let long : ltb (length (field ++ rest)) (length field) ≡ false = le-ltb _ _ (omega (arith, length-append field rest)) in
    rw (long, take_at field rest (length field) refl, drop-append_seam field rest) refl

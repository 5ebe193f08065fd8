-- Keys that are written are read again.
use Rattle.std.proofs.Common.{◌≡◌, ℕ, ℤ, pos, negsuc, ◌+◌, ◌-◌, ◌^◌, ◌<◌, true, false, ltb, eqb, List, [], ◌∷◌, ◌++◌, length, take, drop, Some, Ok, refl, ap, ◌∙◌, arith, eq-eqb, length-append}
use Rattle.std.specs.Prelude.{FitsSigned}
use Rattle.std.specs.Int.{w64, from_be_bytes, to_be_bytes}
use Rattle.std.proofs.lemmas.Bool.{le-ltb, lt-ltb}
use Rattle.std.proofs.lemmas.Nat.{from_be_bytes-to_be_bytes_8}
use Rattle.std.proofs.lemmas.List.{take_at}
use Rattle.std.proofs.Math.Seq.{drop-append_seam}
use Rattle.kv_codec.specs.Keys.{text_at, handle_of, record_at, parts_at, flipped, unflipped, key_by_places}
use Rattle.kv_codec.specs.Spelling as S

pub encoded_again : (at : ℕ) (text : List ℕ) → text_at at (S.encoded text) ≡ Ok text
unfolding text_at S.encoded
encoded_again at (a ∷ b ∷ c ∷ d ∷ e ∷ f ∷ g ∷ h ∷ rest) = rw (encoded_again (at + 9) rest) refl
encoded_again at [] = refl
encoded_again at (a ∷ []) = refl
encoded_again at (a ∷ b ∷ []) = refl
encoded_again at (a ∷ b ∷ c ∷ []) = refl
encoded_again at (a ∷ b ∷ c ∷ d ∷ []) = refl
encoded_again at (a ∷ b ∷ c ∷ d ∷ e ∷ []) = refl
encoded_again at (a ∷ b ∷ c ∷ d ∷ e ∷ f ∷ []) = refl
encoded_again at (a ∷ b ∷ c ∷ d ∷ e ∷ f ∷ g ∷ []) = refl

pub handle_found : (table handle : ℤ) (number tail : List ℕ) → length number ≡ 8 → from_be_bytes w64 number ≡ flipped table → length tail ≡ 8 → unflipped (from_be_bytes w64 tail) ≡ handle
    → handle_of table (116 ∷ (number ++ (95 ∷ 114 ∷ tail))) ≡ Some handle
unfolding handle_of
handle_found table handle (a ∷ b ∷ c ∷ d ∷ e ∷ f ∷ g ∷ h ∷ []) tail size same len is =
    let t : eqb (from_be_bytes w64 (a ∷ b ∷ c ∷ d ∷ e ∷ f ∷ g ∷ h ∷ [])) (flipped table) ≡ true = eq-eqb _ _ same in
    let l : eqb (length tail) 8 ≡ true = eq-eqb _ _ len in
    rw (t, l) (ap (λ x. Some x) is)
handle_found table handle (a ∷ b ∷ c ∷ d ∷ e ∷ f ∷ g ∷ h ∷ x ∷ more) tail size same len is = absurd (omega (arith, size))
handle_found table handle number tail size same len is = absurd (omega (arith, size))

pub flipped_fits : (z : ℤ) → FitsSigned w64 z → flipped z < 2 ^ 64
flipped_fits (pos n) fits = omega (arith, fits.sfits)
flipped_fits (negsuc n) fits = omega (arith, fits.sfits)

unflipped_again : (z : ℤ) → FitsSigned w64 z → unflipped (flipped z) ≡ z
unflipped_again (pos n) fits =
    let high : ltb (2 ^ 63 + n) (2 ^ 63) ≡ false = le-ltb _ _ (omega arith) in
    let back : 2 ^ 63 + n - 2 ^ 63 ≡ n = omega arith in
    rw high (ap pos back)
unflipped_again (negsuc n) fits =
    let low : ltb (2 ^ 63 - (n + 1)) (2 ^ 63) ≡ true = lt-ltb _ _ (omega (arith, fits.sfits)) in
    let back : 2 ^ 63 - (2 ^ 63 - (n + 1) + 1) ≡ n = omega (arith, fits.sfits) in
    rw low (ap negsuc back)

number_back : (z : ℤ) → FitsSigned w64 z → from_be_bytes w64 (to_be_bytes w64 (flipped z)) ≡ flipped z
number_back z fits = from_be_bytes-to_be_bytes_8 (flipped z) (flipped_fits z fits)

pub key_found : (table handle : ℤ) → FitsSigned w64 table → FitsSigned w64 handle → record_at table (S.key table handle) ≡ Ok (Some handle)
unfolding record_at S.key
key_found table handle ft fh =
    let found = handle_found table handle (to_be_bytes w64 (flipped table)) (to_be_bytes w64 (flipped handle)) refl (number_back table ft) refl (ap unflipped (number_back handle fh) ∙ unflipped_again handle fh) in
    rw (encoded_again 0 (S.record_text table handle)) (ap (λ x. Ok x) found)

pub timestamp_split : (key : List ℕ) (ts : ℕ) → ts < 2 ^ 64 → parts_at (key ++ S.timestamp ts) ≡ Ok (key, ts)
unfolding parts_at
timestamp_split key ts lt =
    let flip = 2 ^ 64 - 1 - ts in
    let stamp = S.timestamp ts in
    let size : length (key ++ stamp) ≡ length key + 8 = length-append key stamp in
    let long : ltb (length (key ++ stamp)) 8 ≡ false = le-ltb _ _ (omega (arith, size)) in
    let place : length (key ++ stamp) - 8 ≡ length key = omega (arith, size) in
    let front : take (length (key ++ stamp) - 8) (key ++ stamp) ≡ key = ap (λ n. take n (key ++ stamp)) place ∙ take_at key stamp (length key) refl in
    let behind : drop (length (key ++ stamp) - 8) (key ++ stamp) ≡ stamp = ap (λ n. drop n (key ++ stamp)) place ∙ drop-append_seam key stamp in
    let number : from_be_bytes w64 stamp ≡ flip = from_be_bytes-to_be_bytes_8 flip (omega arith) in
    let back : 2 ^ 64 - 1 - flip ≡ ts = omega (arith, lt) in
    let ts_is : 2 ^ 64 - 1 - from_be_bytes w64 (drop (length (key ++ stamp) - 8) (key ++ stamp)) ≡ ts = ap (λ (xs : List ℕ). 2 ^ 64 - 1 - from_be_bytes w64 xs) behind ∙ ap (λ n. 2 ^ 64 - 1 - n) number ∙ back in
    rw (long, front, ts_is) refl

pub by_places : (table handle : ℤ) → key_by_places (to_be_bytes w64 (flipped table)) (to_be_bytes w64 (flipped handle)) ≡ S.key table handle
unfolding S.key S.encoded
by_places table handle = refl

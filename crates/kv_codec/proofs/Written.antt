-- What was written is read again.
use Rattle.std.proofs.Common.{◌≡◌, ◌≢◌, ℕ, zero, suc, ◌+◌, ◌-◌, ◌*◌, ◌/◌, ◌%◌, ◌^◌, ◌<◌, ◌≤◌, true, false, ltb, eqb, List, [], ◌∷◌, ◌++◌, length, Option, Some, None, Ok, refl, sym, ap, ◌∙◌, append_assoc, arith, inl, inr, length-append}
use Rattle.std.proofs.lemmas.Bool.{cases_lt, le-ltb, lt-ltb}
use Rattle.std.proofs.lemmas.List.{take_at}
use Rattle.std.proofs.Math.Nat.{pow-succ'}
use Rattle.kv_codec.specs.declared.records.WriteKind.{WriteKind}
use Rattle.kv_codec.specs.declared.records.WriteKind.TheVariants.{Put, Delete, Lock, Rollback}
use Rattle.kv_codec.specs.Records.{Write, number_at, kind_at, sized_at, short_at, write_at}
use Rattle.kv_codec.specs.Spelling.{kind_byte, number, short, write, Fits, MayFollow}

kind_again : (k : WriteKind) (rest : List ℕ) → kind_at (kind_byte k ∷ rest) ≡ Ok (k, rest)
unfolding kind_at
kind_again Put rest = refl
kind_again Delete rest = refl
kind_again Lock rest = refl
kind_again Rollback rest = refl

pub number_again : (more at n : ℕ) (rest : List ℕ) → n < 2 * 128 ^ more → number_at more at (number more n ++ rest) ≡ Ok (n, rest)
unfolding number_at number
number_again zero at n rest lt = let e : ltb 1 n ≡ false = le-ltb _ _ (omega arith) in rw e refl
number_again (suc more) at n rest lt =
    elim (cases_lt n 128) [
      | inl low ↦ let e : ltb n 128 ≡ true = lt-ltb _ _ low in rw (e, e) refl
      | inr high ↦
          let e : ltb n 128 ≡ false = le-ltb _ _ high in
          let f : ltb (128 + n % 128) 128 ≡ false = le-ltb _ _ (omega arith) in
          let front : n / 128 < 2 * 128 ^ more = omega (arith, pow-succ' 128 more) in
          let sum : 128 + n % 128 - 128 + 128 * (n / 128) ≡ n = omega arith in
          rw (e, f, number_again more (at + 1) (n / 128) rest front) (ap (λ m. Ok (m, rest)) sum)
    ]

short_again : (len : ℕ) (value : Option (List ℕ)) (rest : List ℕ) → MayFollow value rest → short_at len (short value ++ rest) ≡ Ok value
unfolding short_at sized_at
short_again len None [] ok = refl
short_again len None (b ∷ rest) ok = let e : eqb b 118 ≡ false = grind arith in rw e refl
short_again len (Some value) rest ok =
    let long : ltb (length (value ++ rest)) (length value) ≡ false = le-ltb _ _ (omega (arith, length-append value rest)) in
    rw (long, take_at value rest (length value) refl) refl

pub write_again : (w : Write) (rest : List ℕ) → Fits w → MayFollow w.short rest → write_at (write w ++ rest) ≡ Ok w
unfolding write_at write
write_again w rest fits ok =
    let tail = number 9 w.start ++ (short w.short ++ rest) in
    let regrouped : (kind_byte w.kind ∷ (number 9 w.start ++ short w.short)) ++ rest ≡ kind_byte w.kind ∷ tail = ap (λ (xs : List ℕ). kind_byte w.kind ∷ xs) (append_assoc (number 9 w.start) (short w.short) rest) in
    ap write_at regrouped ∙ rw (kind_again w.kind tail, number_again 9 1 w.start (short w.short ++ rest) (omega (arith, fits.start)), short_again (length (kind_byte w.kind ∷ tail)) w.short rest ok) refl

pub high_fits : (n more : ℕ) → more ≢ 0 → n < 2 * 128 ^ more → n / 128 < 2 * 128 ^ (more - 1)
high_fits n zero ne lt = absurd (ne refl)
high_fits n (suc k) ne lt =
    let e : suc k - 1 ≡ k = omega arith in
    let front : n / 128 < 2 * 128 ^ k = omega (arith, pow-succ' 128 k) in
    rw e front

pub number_more : (n more : ℕ) → more ≢ 0 → 128 ≤ n → number more n ≡ (128 + n % 128) ∷ number (more - 1) (n / 128)
unfolding number
number_more n zero ne high = absurd (ne refl)
number_more n (suc k) ne high =
    let e : suc k - 1 ≡ k = omega arith in
    let f : ltb n 128 ≡ false = le-ltb _ _ high in
    rw (f, e) refl

pub appended_more : (n more : ℕ) (old mid new : List ℕ) → more ≢ 0 → 128 ≤ n → mid ≡ old ++ (128 + n % 128) ∷ [] → new ≡ mid ++ number (more - 1) (n / 128) → new ≡ old ++ number more n
appended_more n more old mid new ne high one rest =
    rest ∙ ap (λ (xs : List ℕ). xs ++ number (more - 1) (n / 128)) one ∙ append_assoc old ((128 + n % 128) ∷ []) (number (more - 1) (n / 128)) ∙ ap (λ (xs : List ℕ). old ++ xs) (sym (number_more n more ne high))

-- Lock records that are written are read again.
use Rattle.std.proofs.Common.{◌≡◌, ℕ, zero, suc, ◌+◌, ◌-◌, ◌*◌, ◌/◌, ◌%◌, ◌^◌, ◌<◌, ◌≤◌, Bool, true, false, cond, ltb, eqb, List, [], ◌∷◌, ◌++◌, length, take, drop, Result, Ok, Err, refl, sym, ap, ◌∙◌, arith, append_assoc, length-append}
use Rattle.std.proofs.lemmas.Bool.{le-ltb}
use Rattle.std.proofs.lemmas.List.{take_at}
use Rattle.std.proofs.Math.Seq.{drop-append_seam}
use Rattle.flash_list.specs.Steps.{◌>>=◌}
use Rattle.kv_codec.specs.declared.records.RecordError.{RecordError}
use Rattle.kv_codec.specs.declared.records.LockKind.{LockKind}
use Rattle.kv_codec.specs.declared.records.LockKind.TheVariants.{Put, Delete, Lock, Pessimistic}
use Rattle.kv_codec.specs.Records.{LockRecord, number_at, number_in, lock_kind_at, text_at, ttl_at, lock_at}
use Rattle.kv_codec.specs.Spelling as S
use Rattle.kv_codec.proofs.Written.{number_again}

kind_again : (k : LockKind) (rest : List ℕ) → lock_kind_at (S.lock_kind_byte k ∷ rest) ≡ Ok (k, rest)
unfolding lock_kind_at
kind_again Put rest = refl
kind_again Delete rest = refl
kind_again Lock rest = refl
kind_again Pessimistic rest = refl

text_again : (len : ℕ) (text rest : List ℕ) → 2 * length text < 2 ^ 64 → text_at len (S.number 9 (2 * length text) ++ (text ++ rest)) ≡ Ok (text, rest)
unfolding text_at
text_again len text rest fits =
    let read = number_again 9 (len - length (S.number 9 (2 * length text) ++ (text ++ rest))) (2 * length text) (text ++ rest) (omega (arith, fits)) in
    let rem : 2 * length text % 2 ≡ 0 = omega arith in
    let even : eqb (2 * length text % 2) 1 ≡ false = ap (λ n. eqb n 1) rem in
    let half : 2 * length text / 2 ≡ length text = omega arith in
    let long : ltb (length (text ++ rest)) (length text) ≡ false = le-ltb _ _ (omega (arith, length-append text rest)) in
    rw (read, even, half, long, take_at text rest (length text) refl, drop-append_seam text rest) refl

ttl_number : (len n : ℕ) (bytes rest : List ℕ) → 1 ≤ length bytes → number_in len bytes ≡ Ok (n, rest) → ttl_at len bytes ≡ Ok n
unfolding ttl_at
ttl_number len n [] rest some read = absurd (omega (arith, some))
ttl_number len n (b ∷ bytes) rest some read = rw read refl

-- a number is written in a byte at least
some_byte : (more n : ℕ) → 1 ≤ length (S.number more n)
unfolding S.number
some_byte zero n = omega arith
some_byte (suc more) n =
    let by_size : (b : Bool) → 1 ≤ length (cond b (n ∷ []) ((128 + n % 128) ∷ S.number more (n / 128))) = elim [ true ↦ omega arith | false ↦ omega arith ] in
    by_size (ltb n 128)

number_first : (n : ℕ) (rest : List ℕ) → n < 2 ^ 64 → (len : ℕ) → ttl_at len (S.number 9 n ++ rest) ≡ Ok n
number_first n rest fits len =
    ttl_number len n (S.number 9 n ++ rest) rest (omega (arith, length-append (S.number 9 n) rest, some_byte 9 n)) (number_again 9 (len - length (S.number 9 n ++ rest)) n rest (omega (arith, fits)))

pub lock_again : (l : LockRecord) (rest : List ℕ) → S.LockFits l → lock_at (S.lock l ++ rest) ≡ Ok l
unfolding lock_at S.lock
lock_again l rest fits =
    let size = S.number 9 (2 * length l.primary) in
    let start = S.number 9 l.start in
    let ttl = S.number 9 l.ttl in
    let len = length (S.lock l ++ rest) in
    let one = append_assoc size (l.primary ++ (start ++ ttl)) rest in
    let two = append_assoc l.primary (start ++ ttl) rest in
    let three = append_assoc start ttl rest in
    let parts : S.lock l ++ rest ≡ S.lock_kind_byte l.kind ∷ (size ++ (l.primary ++ (start ++ (ttl ++ rest)))) =
    ap (λ (xs : List ℕ). S.lock_kind_byte l.kind ∷ xs) (one ∙ ap (λ (xs : List ℕ). size ++ xs) (two ∙ ap (λ (xs : List ℕ). l.primary ++ xs) three)) in
    ap lock_at parts ∙ rw (kind_again l.kind (size ++ (l.primary ++ (start ++ (ttl ++ rest)))), text_again _ l.primary (start ++ (ttl ++ rest)) fits.primary, number_again 9 _ l.start (ttl ++ rest) (omega (arith, fits.start)), number_first l.ttl rest fits.ttl _) refl

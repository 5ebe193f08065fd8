-- What is written is read again.
use Rattle.std.proofs.Common.{◌≡◌, ℕ, ℤ, zero, suc, ◌+◌, ◌-◌, ◌*◌, ◌/◌, ◌%◌, ◌^◌, ◌<◌, ◌≤◌, Bool, true, false, cond, ltb, eqb, List, [], ◌∷◌, ◌++◌, length, Option, Some, None, Result, Ok, refl, sym, ap, ◌∙◌, append_assoc, subst, arith, inl, inr, length-append}
use Rattle.std.specs.Prelude.{FitsSigned, IfSome, ◌&&◌}
use Rattle.std.specs.Int.{w64, cast_signed, cast_unsigned}
use Rattle.std.specs.List.{list_all, AllByRecursion}
use Rattle.std.proofs.lemmas.Bool.{cases_lt, le-ltb, lt-ltb}
use Rattle.std.proofs.lemmas.List.{take_at}
use Rattle.std.proofs.lemmas.Int.{to_z-of_z}
use Rattle.std.proofs.Math.Facts.{Fits-of_z}
use Rattle.std.proofs.Math.Seq.{drop-append_seam}
use Rattle.std.proofs.Math.Nat.{pow-succ'}
use Rattle.column_codec.specs.declared.fault.CodecError.{CodecError}
use Rattle.column_codec.specs.Numbers.{higher_at, number_at, folded, unfolded, uint_at, int_at, text_at}
use Rattle.column_codec.specs.Lists.{values_at, value_at, repeated, given, mode_of, of_mode}
use Rattle.column_codec.specs.Spelling as spelling

higher_again : (more end n : ℕ) (rest : List ℕ) → 1 ≤ n → n < 2 * 128 ^ more → higher_at more end (spelling.higher more n ++ rest) ≡ Ok (n, rest)
unfolding higher_at spelling.higher
higher_again zero end n rest least lt =
    let one : n ≡ 1 = omega arith in
    let e : eqb n 1 ≡ true = grind arith in
    rw (e) (ap (λ m. Ok (m, rest)) (sym one))
higher_again (suc more) end n rest least lt =
    elim (cases_lt n 128) [
      | inl low ↦
          let e : ltb n 128 ≡ true = lt-ltb _ _ low in
          let z : eqb n 0 ≡ false = grind arith in
          rw (e, z, e) refl
      | inr high ↦
          let e : ltb n 128 ≡ false = le-ltb _ _ high in
          let z : eqb (128 + n % 128) 0 ≡ false = grind arith in
          let f : ltb (128 + n % 128) 128 ≡ false = le-ltb _ _ (omega arith) in
          let front : n / 128 < 2 * 128 ^ more = omega (arith, pow-succ' 128 more) in
          let some : 1 ≤ n / 128 = omega arith in
          let sum : 128 + n % 128 - 128 + 128 * (n / 128) ≡ n = omega arith in
          rw (e, z, f, higher_again more end (n / 128) rest some front) (ap (λ m. Ok (m, rest)) sum)
    ]

number_again : (end n : ℕ) (rest : List ℕ) → n < 2 ^ 64 → number_at end (spelling.number n ++ rest) ≡ Ok (n, rest)
unfolding number_at spelling.number
number_again end n rest lt =
    elim (cases_lt n 128) [
      | inl low ↦
          let e : ltb n 128 ≡ true = lt-ltb _ _ low in
          rw (e, e) refl
      | inr high ↦
          let e : ltb n 128 ≡ false = le-ltb _ _ high in
          let f : ltb (128 + n % 128) 128 ≡ false = le-ltb _ _ (omega arith) in
          let front : n / 128 < 2 * 128 ^ 8 = omega arith in
          let some : 1 ≤ n / 128 = omega arith in
          let sum : 128 + n % 128 - 128 + 128 * (n / 128) ≡ n = omega arith in
          rw (e, f, higher_again 8 end (n / 128) rest some front) (ap (λ m. Ok (m, rest)) sum)
    ]

folded_below : (d : ℕ) → d < 2 ^ 64 → folded d < 2 ^ 64
folded_below d lt = elim (cases_lt d (2 ^ 63)) [
  | inl low ↦ let e : ltb d (2 ^ 63) ≡ true = lt-ltb _ _ low in rw e (omega arith)
  | inr high ↦ let e : ltb d (2 ^ 63) ≡ false = le-ltb _ _ high in rw e (omega arith)
]

unfold_again : (d : ℕ) → d < 2 ^ 64 → unfolded (folded d) ≡ d
unfold_again d lt = elim (cases_lt d (2 ^ 63)) [
  | inl low ↦
      let e : ltb d (2 ^ 63) ≡ true = lt-ltb _ _ low in
      let even : eqb (2 * d % 2) 0 ≡ true = grind arith in
      rw (e, even) (omega arith)
  | inr high ↦
      let e : ltb d (2 ^ 63) ≡ false = le-ltb _ _ high in
      let odd : eqb ((2 * (2 ^ 64 - 1 - d) + 1) % 2) 0 ≡ false = grind arith in
      rw (e, odd) (omega arith)
]

pub uint_again : (end before n : ℕ) (rest : List ℕ) → before < 2 ^ 64 → n < 2 ^ 64 → uint_at end before (spelling.uint before n ++ rest) ≡ Ok (n, rest)
unfolding uint_at spelling.uint
uint_again end before n rest b lt =
    let d = (n + (2 ^ 64 - before)) % 2 ^ 64 in
    let small : d < 2 ^ 64 = omega arith in
    let sum : (before + d) % 2 ^ 64 ≡ n = omega arith in
    rw (number_again end (folded d) rest (folded_below d small), unfold_again d small) (ap (λ m. Ok (m, rest)) sum)

pub int_again : (end before : ℕ) (z : ℤ) (rest : List ℕ) → before < 2 ^ 64 → FitsSigned w64 z → int_at end before (spelling.int before z ++ rest) ≡ Ok (z, rest)
unfolding int_at spelling.int
int_again end before z rest b fits =
    let back : cast_signed w64 (cast_unsigned w64 z) ≡ z = to_z-of_z w64 z fits in
    rw (uint_again end before (cast_unsigned w64 z) rest b (Fits-of_z {w = w64} {z = z} fits).fits) (ap (λ x. Ok (x, rest)) back)

pub text_again : (end : ℕ) (text rest : List ℕ) → length text < 2 ^ 64 → text_at end (tt {0}) (spelling.text (tt {0}) text ++ rest) ≡ Ok (text, rest)
unfolding text_at spelling.text
text_again end text rest lt =
    let parts : (spelling.number (length text) ++ text) ++ rest ≡ spelling.number (length text) ++ (text ++ rest) = append_assoc (spelling.number (length text)) text rest in
    let long : ltb (length (text ++ rest)) (length text) ≡ false = le-ltb _ _ (omega (arith, length-append text rest)) in
    rw (parts, number_again end (length text) (text ++ rest) lt, long, take_at text rest (length text) refl, drop-append_seam text rest) refl

-- ---- values

-- a value that is written behind this state is read again
abbrev pub ReadAgain : {S X : Type 0} → (S → List ℕ → Result (X × List ℕ) CodecError) → (S → X → List ℕ) → (S → Type 0) → (X → Type 0) → Type 0
ReadAgain {S} {X} read write Good Fits = (state : S) (x : X) (rest : List ℕ) → Good state → Fits x → read state (write state x ++ rest) ≡ Ok (x, rest)

values_again : {S X : Type 0} (read : S → List ℕ → Result (X × List ℕ) CodecError) (write : S → X → List ℕ) (next : X → S) (Good : S → Type 0) (Fits : X → Type 0) → ReadAgain read write Good Fits → ((x : X) → Fits x → Good (next x))
    → (list : List (Option X)) (state : S) → Good state → AllByRecursion (λ value. IfSome value Fits) list → values_at read next (spelling.are_null list) state (spelling.each write next state (given list)) ≡ Ok (list, [])
unfolding values_at
values_again read write next Good Fits again step [] state good all = refl
values_again read write next Good Fits again step (None ∷ list) state good all = rw (values_again read write next Good Fits again step list state good all.1) refl
values_again read write next Good Fits again step (Some x ∷ list) state good all =
    let first = again state x (spelling.each write next (next x) (given list)) good all.0 in
    rw (first, values_again read write next Good Fits again step list (next x) (step x all.0) all.1) refl

pub both_true : (a b : Bool) → (a && b) ≡ true → (a ≡ true) × (b ≡ true)
both_true true b h = (refl, h)
both_true false b h = absurd cc

all_same : {X : Type 0} (same : X → X → Bool) → ((x y : X) → same x y ≡ true → x ≡ y) → (x : X) (list : List (Option X)) → list_all (same x) (given list) ≡ true → repeated x (spelling.are_null list) ≡ list
all_same same exact x [] h = refl
all_same same exact x (None ∷ list) h = ap (λ (os : List (Option _)). None ∷ os) (all_same same exact x list h)
all_same same exact x (Some y ∷ list) h =
    let b = both_true (same x y) (list_all (same x) (given list)) h in
    ap (λ z. Some z ∷ repeated x (spelling.are_null list)) (exact x y b.0) ∙ ap (λ (os : List (Option _)). Some y ∷ os) (all_same same exact x list b.1)

not_all_null : {X : Type 0} (list : List (Option X)) (x : X) (others : List X) → given list ≡ x ∷ others → list_all (λ null. null) (spelling.are_null list) ≡ false
not_all_null [] x others e = absurd cc
not_all_null (None ∷ list) x others e = not_all_null list x others e
not_all_null (Some y ∷ list) x others e = refl

-- how a kind of list is written and read
pub record Codec {S X : Type 0} (read : S → List ℕ → Result (X × List ℕ) CodecError) (write : S → X → List ℕ) (next : X → S) (start : S) (same : X → X → Bool) (Fits : X → Type 0) : Type 1 where
  pub Good : S → Type 0
  pub starts : Good start
  pub steps : (x : X) → Fits x → Good (next x)
  pub again : ReadAgain read write Good Fits
  pub exact : (x y : X) → same x y ≡ true → x ≡ y
  pub equal : (x : X) → same x x ≡ true

first_fits : {X : Type 0} (Fits : X → Type 0) (list : List (Option X)) (x : X) (others : List X) → AllByRecursion (λ value. IfSome value Fits) list → given list ≡ x ∷ others → Fits x
first_fits Fits [] x others all e = absurd cc
first_fits Fits (None ∷ list) x others all e = first_fits Fits list x others all.1 e
first_fits Fits (Some y ∷ list) x others all e = let same : y ≡ x = cc e in subst Fits same all.0

module _ {S X : Type 0} {read : S → List ℕ → Result (X × List ℕ) CodecError} {write : S → X → List ℕ} {next : X → S} {start : S} {same : X → X → Bool} {Fits : X → Type 0} (codec : Codec read write next start same Fits) where
  in_turn : (list : List (Option X)) (vs : List X) → AllByRecursion (λ value. IfSome value Fits) list → given list ≡ vs → values_at read next (spelling.are_null list) start (spelling.each write next start vs) ≡ Ok (list, [])
  in_turn list vs all e = subst (λ xs. values_at read next (spelling.are_null list) start (spelling.each write next start xs) ≡ Ok (list, [])) e (values_again read write next codec.Good Fits codec.again codec.steps list start codec.starts all)

  one_for_all : (list : List (Option X)) (x : X) (others : List X) → AllByRecursion (λ value. IfSome value Fits) list → given list ≡ x ∷ others → list_all (same x) others ≡ true
      → value_at read (spelling.are_null list) start (write start x ++ []) ≡ Ok (list, [])
  unfolding value_at
  one_for_all list x others all e h =
      let some = not_all_null list x others e in
      let is = codec.again start x [] codec.starts (first_fits Fits list x others all e) in
      let whole : list_all (same x) (given list) ≡ true = rw (e, codec.equal x) h in
      rw (some, is, all_same same codec.exact x list whole) refl

  by_equal : (b : Bool) (list : List (Option X)) (x y : X) (others : List X) → AllByRecursion (λ value. IfSome value Fits) list → given list ≡ x ∷ y ∷ others → list_all (same x) (y ∷ others) ≡ b
      → of_mode read next start (cond b 1 0) (spelling.are_null list) (spelling.each write next start (spelling.shown (cond b 1 0) (x ∷ y ∷ others))) ≡ Ok (list, [])
  unfolding of_mode
  by_equal true list x y others all e h = one_for_all list x (y ∷ others) all e h
  by_equal false list x y others all e h = in_turn list (x ∷ y ∷ others) all e

  pub by_given : (list : List (Option X)) (vs : List X) → AllByRecursion (λ value. IfSome value Fits) list → given list ≡ vs
      → of_mode read next start (mode_of same vs) (spelling.are_null list) (spelling.each write next start (spelling.shown (mode_of same vs) vs)) ≡ Ok (list, [])
  unfolding of_mode
  by_given list [] all e = in_turn list [] all e
  by_given list (x ∷ []) all e = in_turn list (x ∷ []) all e
  by_given list (x ∷ y ∷ others) all e = by_equal (list_all (same x) (y ∷ others)) list x y others all e refl

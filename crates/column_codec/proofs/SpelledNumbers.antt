-- What is read as a number or a text is its one spelling.
use Rattle.std.proofs.Common.{◌≡◌, ℕ, ℤ, zero, suc, ◌+◌, ◌-◌, ◌*◌, ◌/◌, ◌%◌, ◌^◌, ◌<◌, ◌≤◌, Bool, true, false, cond, ltb, eqb, List, [], ◌∷◌, ◌++◌, length, take, drop, Result, Ok, Err, refl, sym, ap, ◌∙◌, append_assoc, subst, arith, inl, inr, length-take, lit<}
use Rattle.std.specs.Prelude.{FitsSigned}
use Rattle.std.specs.Int.{w64, cast_signed}
use Rattle.std.proofs.lemmas.Bool.{cases_lt, le-ltb, lt-ltb, ltb-false}
use Rattle.std.proofs.lemmas.List.{take-append-drop}
use Rattle.std.proofs.Math.Nat.{pow-succ', one-le-pow}
use Rattle.flash_list.specs.Steps.{◌>>=◌}
use Rattle.column_codec.specs.Laws.{AreBytes}
use Rattle.column_codec.specs.Numbers.{bad_at, higher_at, number_at, folded, unfolded, uint_at, int_at, text_at}
use Rattle.column_codec.specs.Spelling as spelling
use Rattle.column_codec.proofs.ValueSteps.{ok_is, int_word, word_fits}

pub bind_ok : {A B E : Type 0} (r : Result A E) (f : A → Result B E) (y : B) → (r >>= f) ≡ Ok y → (x : A) × (r ≡ Ok x) × (f x ≡ Ok y)
bind_ok (Ok x) f y e = (x, refl, e)
bind_ok (Err d) f y e = absurd cc

pub guard_ok : {A E : Type 0} (b : Bool) (d : E) (x : Result A E) (y : A) → cond b (Err d) x ≡ Ok y → (b ≡ false) × (x ≡ Ok y)
guard_ok true d x y e = absurd cc
guard_ok false d x y e = (refl, e)

pub only_ok : {A E : Type 0} (b : Bool) (d : E) (x : Result A E) (y : A) → cond b x (Err d) ≡ Ok y → (b ≡ true) × (x ≡ Ok y)
only_ok true d x y e = (refl, e)
only_ok false d x y e = absurd cc

record IsHigher (more : ℕ) (bytes : List ℕ) (x : ℕ × List ℕ) : Type 0 where
  bytes_are : bytes ≡ spelling.higher more x.0 ++ x.1
  least : 1 ≤ x.0
  below : x.0 < 2 * 128 ^ more

higher_more : (more b high : ℕ) → 128 ≤ b → b < 256 → 1 ≤ high → spelling.higher (suc more) (b - 128 + 128 * high) ≡ b ∷ spelling.higher more high
unfolding spelling.higher
higher_more more b high top byte some =
    let n = b - 128 + 128 * high in
    let e : ltb n 128 ≡ false = le-ltb _ _ (omega arith) in
    let first : 128 + n % 128 ≡ b = omega arith in
    let others : n / 128 ≡ high = omega arith in
    rw (e, first, others) refl

higher_low : (more b : ℕ) → b < 128 → spelling.higher (suc more) b ≡ b ∷ []
unfolding spelling.higher
higher_low more b low = let e : ltb b 128 ≡ true = lt-ltb _ _ low in rw e refl

one_byte : (b : ℕ) (rest : List ℕ) → b ≡ 1 → b ∷ rest ≡ spelling.higher zero 1 ++ rest
unfolding spelling.higher
one_byte b rest one = ap (λ n. n ∷ rest) one

power : (more : ℕ) → 1 ≤ 128 ^ more
power more = one-le-pow more 128 (lit< tt)

higher_found : (more end : ℕ) (bytes : List ℕ) (x : ℕ × List ℕ) → AreBytes bytes → higher_at more end bytes ≡ Ok x → IsHigher more bytes x
unfolding higher_at
higher_found zero end [] x are h = absurd cc
higher_found (suc more) end [] x are h = absurd cc
higher_found zero end (b ∷ rest) x are h =
    let g = only_ok (eqb b 1) (bad_at end (b ∷ rest)) (Ok (1, rest)) x h in
    let same = ok_is (1, rest) x g.1 in
    let one : b ≡ 1 = grind (arith, g.0) in
    subst (IsHigher zero (b ∷ rest)) same (record { bytes_are = one_byte b rest one; least = omega arith; below = omega arith })
higher_found (suc more) end (b ∷ rest) x are h =
    let g = guard_ok (eqb b 0) (bad_at end (b ∷ rest)) _ x h in
    let nonzero : 1 ≤ b = grind (arith, g.0) in
    elim (cases_lt b 128) [
      | inl low ↦
          let e : ltb b 128 ≡ true = lt-ltb _ _ low in
          let here = rw e at g.1 in
          let same = ok_is (b, rest) x here in
          subst (IsHigher (suc more) (b ∷ rest)) same (record { bytes_are = sym (ap (λ (xs : List ℕ). xs ++ rest) (higher_low more b low)); least = nonzero; below = omega (arith, pow-succ' 128 more, power more) })
      | inr top ↦
          let e : ltb b 128 ≡ false = le-ltb _ _ top in
          let here = rw e at g.1 in
          let a = bind_ok (higher_at more end rest) _ x here in
          let found = higher_found more end rest a.0 (λ i. are (suc i)) a.1 in
          let same = ok_is (b - 128 + 128 * a.0.0, a.0.1) x a.2 in
          let byte : b < 256 = are 0 in
          subst (IsHigher (suc more) (b ∷ rest)) same (record {
            bytes_are = ap (λ (xs : List ℕ). b ∷ xs) found.bytes_are ∙ sym (ap (λ (xs : List ℕ). xs ++ a.0.1) (higher_more more b a.0.0 top byte found.least));
            least = omega (arith, found.least);
            below = omega (arith, pow-succ' 128 more, found.below);
          })
    ]

pub record IsNumber (bytes : List ℕ) (x : ℕ × List ℕ) : Type 0 where
  pub bytes_are : bytes ≡ spelling.number x.0 ++ x.1
  pub below : x.0 < 2 ^ 64

number_low : (b : ℕ) → b < 128 → spelling.number b ≡ b ∷ []
unfolding spelling.number
number_low b low = let e : ltb b 128 ≡ true = lt-ltb _ _ low in rw e refl

number_more : (b high : ℕ) → 128 ≤ b → b < 256 → 1 ≤ high → spelling.number (b - 128 + 128 * high) ≡ b ∷ spelling.higher 8 high
unfolding spelling.number
number_more b high top byte some =
    let n = b - 128 + 128 * high in
    let e : ltb n 128 ≡ false = le-ltb _ _ (omega arith) in
    let first : 128 + n % 128 ≡ b = omega arith in
    let others : n / 128 ≡ high = omega arith in
    rw (e, first, others) refl

pub number_found : (end : ℕ) (bytes : List ℕ) (x : ℕ × List ℕ) → AreBytes bytes → number_at end bytes ≡ Ok x → IsNumber bytes x
unfolding number_at
number_found end [] x are h = absurd cc
number_found end (b ∷ rest) x are h =
    elim (cases_lt b 128) [
      | inl low ↦
          let e : ltb b 128 ≡ true = lt-ltb _ _ low in
          let here = rw e at h in
          let same = ok_is (b, rest) x here in
          subst (IsNumber (b ∷ rest)) same (record { bytes_are = sym (ap (λ (xs : List ℕ). xs ++ rest) (number_low b low)); below = omega arith })
      | inr top ↦
          let e : ltb b 128 ≡ false = le-ltb _ _ top in
          let here = rw e at h in
          let a = bind_ok (higher_at 8 end rest) _ x here in
          let found = higher_found 8 end rest a.0 (λ i. are (suc i)) a.1 in
          let same = ok_is (b - 128 + 128 * a.0.0, a.0.1) x a.2 in
          let byte : b < 256 = are 0 in
          subst (IsNumber (b ∷ rest)) same (record {
            bytes_are = ap (λ (xs : List ℕ). b ∷ xs) found.bytes_are ∙ sym (ap (λ (xs : List ℕ). xs ++ a.0.1) (number_more b a.0.0 top byte found.least));
            below = omega (arith, found.below);
          })
    ]

cond_below : (b : Bool) (x y bound : ℕ) → x < bound → y < bound → cond b x y < bound
cond_below true x y bound p q = p
cond_below false x y bound p q = q

unfolded_below : (z : ℕ) → z < 2 ^ 64 → unfolded z < 2 ^ 64
unfolded_below z lt = cond_below (eqb (z % 2) 0) (z / 2) (2 ^ 64 - 1 - z / 2) (2 ^ 64) (omega arith) (omega arith)

fold_again : (z : ℕ) → z < 2 ^ 64 → folded (unfolded z) ≡ z
fold_again z lt = elim (cases_lt (z % 2) 1) [
  | inl even ↦
      let e : eqb (z % 2) 0 ≡ true = grind arith in
      let low : ltb (z / 2) (2 ^ 63) ≡ true = lt-ltb _ _ (omega arith) in
      rw (e, low) (omega arith)
  | inr odd ↦
      let e : eqb (z % 2) 0 ≡ false = grind arith in
      let high : ltb (2 ^ 64 - 1 - z / 2) (2 ^ 63) ≡ false = le-ltb _ _ (omega arith) in
      rw (e, high) (omega arith)
]

pub record IsUint (before : ℕ) (bytes : List ℕ) (x : ℕ × List ℕ) : Type 0 where
  pub bytes_are : bytes ≡ spelling.uint before x.0 ++ x.1
  pub below : x.0 < 2 ^ 64

pub uint_found : (end before : ℕ) (bytes : List ℕ) (x : ℕ × List ℕ) → before < 2 ^ 64 → AreBytes bytes → uint_at end before bytes ≡ Ok x → IsUint before bytes x
unfolding uint_at spelling.uint
uint_found end before bytes x small are h =
    let a = bind_ok (number_at end bytes) _ x h in
    let found = number_found end bytes a.0 are a.1 in
    let u = unfolded a.0.0 in
    let d : u < 2 ^ 64 = unfolded_below a.0.0 found.below in
    let v = (before + u) % 2 ^ 64 in
    let same = ok_is (v, a.0.1) x a.2 in
    let back : (v + (2 ^ 64 - before)) % 2 ^ 64 ≡ u = omega arith in
    let spelled : spelling.number (folded ((v + (2 ^ 64 - before)) % 2 ^ 64)) ≡ spelling.number a.0.0 = ap (λ n. spelling.number (folded n)) back ∙ ap spelling.number (fold_again a.0.0 found.below) in
    subst (IsUint before bytes) same (record { bytes_are = found.bytes_are ∙ ap (λ (xs : List ℕ). xs ++ a.0.1) (sym spelled); below = omega arith })

pub record IsInt (before : ℕ) (bytes : List ℕ) (x : ℤ × List ℕ) : Type 0 where
  pub bytes_are : bytes ≡ spelling.int before x.0 ++ x.1
  pub fits : FitsSigned w64 x.0

pub int_found : (end before : ℕ) (bytes : List ℕ) (x : ℤ × List ℕ) → before < 2 ^ 64 → AreBytes bytes → int_at end before bytes ≡ Ok x → IsInt before bytes x
unfolding int_at spelling.int
int_found end before bytes x small are h =
    let a = bind_ok (uint_at end before bytes) _ x h in
    let found = uint_found end before bytes a.0 small are a.1 in
    let word = int_word end before bytes a.0.0 a.0.1 a.1 in
    let same = ok_is (cast_signed w64 a.0.0, a.0.1) x a.2 in
    subst (IsInt before bytes) same (record { bytes_are = found.bytes_are ∙ ap (λ n. spelling.uint before n ++ a.0.1) (sym word); fits = word_fits end before bytes a.0.0 a.0.1 a.1 })

pub record IsText (bytes : List ℕ) (x : List ℕ × List ℕ) : Type 0 where
  pub bytes_are : bytes ≡ spelling.text (tt {0}) x.0 ++ x.1
  pub below : length x.0 < 2 ^ 64

pub text_found : (end : ℕ) (bytes : List ℕ) (x : List ℕ × List ℕ) → AreBytes bytes → text_at end (tt {0}) bytes ≡ Ok x → IsText bytes x
unfolding text_at spelling.text
text_found end bytes x are h =
    let a = bind_ok (number_at end bytes) _ x h in
    let found = number_found end bytes a.0 are a.1 in
    let size = a.0.0 in
    let rest = a.0.1 in
    let g = guard_ok (ltb (length rest) size) _ (Ok (take size rest, drop size rest)) x a.2 in
    let long : size ≤ length rest = ltb-false _ _ g.0 in
    let len : length (take size rest) ≡ size = omega (arith, length-take size rest) in
    let same = ok_is (take size rest, drop size rest) x g.1 in
    let parts : spelling.number size ++ rest ≡ (spelling.number (length (take size rest)) ++ take size rest) ++ drop size rest =
    ap (λ (xs : List ℕ). spelling.number size ++ xs) (sym (take-append-drop size rest)) ∙ ap (λ n. spelling.number n ++ (take size rest ++ drop size rest)) (sym len) ∙ sym (append_assoc (spelling.number (length (take size rest))) (take size rest) (drop size rest)) in
    subst (IsText bytes) same (record { bytes_are = found.bytes_are ∙ parts; below = omega (arith, len, found.below) })

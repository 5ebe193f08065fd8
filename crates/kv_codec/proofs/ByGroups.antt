-- A record key, by the numbers that its groups are.
use Rattle.std.proofs.Common.{◌≡◌, ℕ, ℤ, ◌+◌, ◌*◌, ◌/◌, ◌%◌, ◌^◌, ◌<◌, List, ◌∷◌, [], length, take, drop, get_or, Option, Some, Ok, refl, sym, ap, ◌∙◌, arith}
use Rattle.std.specs.Int.{w64, from_be_bytes}
use Rattle.kv_codec.specs.Keys.{text_at, record_at, flipped, unflipped}
use Rattle.kv_codec.proofs.KeysAgain.{handle_found}

-- the number of eight bytes
abbrev number : ℕ → ℕ → ℕ → ℕ → ℕ → ℕ → ℕ → ℕ → ℕ
number a b c d e f g h = from_be_bytes w64 (a ∷ b ∷ c ∷ d ∷ e ∷ f ∷ g ∷ h ∷ [])

-- the first group of a record key: `t`, and seven bytes of the table
record First (table t a b c d e f g : ℕ) : Type 0 where
  mark : t ≡ 116
  high : number 0 a b c d e f g ≡ table / 256

first_is : (table t a b c d e f g : ℕ) → table < 2 ^ 64 → a < 256 → b < 256 → c < 256 → d < 256 → e < 256 → f < 256 → g < 256
    → number t a b c d e f g ≡ 116 * 2 ^ 56 + table / 256 → First table t a b c d e f g
first_is table t a b c d e f g fits la lb lc ld le lf lg is = record { mark = omega arith; high = omega arith }

-- the second: the table's last byte, `_r`, and five bytes of the handle
record Second (table h line r i j k l m : ℕ) : Type 0 where
  low : h ≡ table % 256
  line_is : line ≡ 95
  r_is : r ≡ 114
  handle : number h line r i j k l m % 2 ^ 40 ≡ number 0 0 0 i j k l m

second_is : (table h line r i j k l m : ℕ) → line < 256 → r < 256 → i < 256 → j < 256 → k < 256 → l < 256 → m < 256
    → number h line r i j k l m / 2 ^ 40 ≡ table % 256 * 65536 + 24434 → Second table h line r i j k l m
second_is table h line r i j k l m ll lr li lj lk l5 lm is =
    let top : h * 65536 + line * 256 + r ≡ table % 256 * 65536 + 24434 = omega arith in
    record { low = omega arith; line_is = omega arith; r_is = omega arith; handle = omega arith }

-- the third: three bytes of the handle, and pads
record Third (n o p a b c d e : ℕ) : Type 0 where
  pad1 : a ≡ 0
  pad2 : b ≡ 0
  pad3 : c ≡ 0
  pad4 : d ≡ 0
  pad5 : e ≡ 0
  handle : number n o p a b c d e / 2 ^ 40 ≡ number 0 0 0 0 0 n o p

third_is : (n o p a b c d e : ℕ) → a < 256 → b < 256 → c < 256 → d < 256 → e < 256 → number n o p a b c d e % 2 ^ 40 ≡ 0 → Third n o p a b c d e
third_is n o p a b c d e la lb lc ld le is =
    let low : number 0 0 0 a b c d e ≡ 0 = omega arith in
    record { pad1 = omega arith; pad2 = omega arith; pad3 = omega arith; pad4 = omega arith; pad5 = omega arith; handle = omega arith }

-- a record key's groups, as they stand
groups_read : (table : ℤ) (a b c d e f g h i j k l m n o p : ℕ) (handle : ℤ) → number a b c d e f g h ≡ flipped table → unflipped (number i j k l m n o p) ≡ handle
    → record_at table (116 ∷ a ∷ b ∷ c ∷ d ∷ e ∷ f ∷ g ∷ 255 ∷ h ∷ 95 ∷ 114 ∷ i ∷ j ∷ k ∷ l ∷ m ∷ 255 ∷ n ∷ o ∷ p ∷ 0 ∷ 0 ∷ 0 ∷ 0 ∷ 0 ∷ 250 ∷ []) ≡ Ok (Some handle)
unfolding record_at text_at
groups_read table a b c d e f g h i j k l m n o p handle same is =
    ap (λ (x : Option ℤ). Ok x) (handle_found table handle (a ∷ b ∷ c ∷ d ∷ e ∷ f ∷ g ∷ h ∷ []) (i ∷ j ∷ k ∷ l ∷ m ∷ n ∷ o ∷ p ∷ []) refl same refl is)

-- What three groups of these numbers are.
pub found : (table : ℤ) (key : List ℕ) (flip first second third : ℕ) (handle : ℤ) → length key ≡ 27 → ((i : ℕ) → get_or key i 0 < 256)
    → get_or key 8 0 ≡ 255 → get_or key 17 0 ≡ 255 → get_or key 26 0 ≡ 250 → flip < 2 ^ 64 → flip ≡ flipped table
    → first ≡ from_be_bytes w64 (take 8 key) → second ≡ from_be_bytes w64 (take 8 (drop 9 key)) → third ≡ from_be_bytes w64 (take 8 (drop 18 key))
    → first ≡ 116 * 2 ^ 56 + flip / 256 → second / 2 ^ 40 ≡ flip % 256 * 65536 + 24434 → third % 2 ^ 40 ≡ 0
    → handle ≡ unflipped (second % 2 ^ 40 * 2 ^ 24 + third / 2 ^ 40) → record_at table key ≡ Ok (Some handle)
found table (t ∷ a ∷ b ∷ c ∷ d ∷ e ∷ f ∷ g ∷ m1 ∷ h ∷ line ∷ r ∷ i ∷ j ∷ k ∷ l ∷ m ∷ m2 ∷ n ∷ o ∷ p ∷ p1 ∷ p2 ∷ p3 ∷ p4 ∷ p5 ∷ m3 ∷ []) flip first second third handle len bytes e1 e2 e3 fits flip_is i1 i2 i3 q1 q2 q3 is =
    let one = first_is flip t a b c d e f g fits (bytes 1) (bytes 2) (bytes 3) (bytes 4) (bytes 5) (bytes 6) (bytes 7) (sym i1 ∙ q1) in
    let two = second_is flip h line r i j k l m (bytes 10) (bytes 11) (bytes 12) (bytes 13) (bytes 14) (bytes 15) (bytes 16) (ap (λ x. x / 2 ^ 40) (sym i2) ∙ q2) in
    let three = third_is n o p p1 p2 p3 p4 p5 (bytes 21) (bytes 22) (bytes 23) (bytes 24) (bytes 25) (ap (λ x. x % 2 ^ 40) (sym i3) ∙ q3) in
    let high : second % 2 ^ 40 ≡ number 0 0 0 i j k l m = ap (λ x. x % 2 ^ 40) i2 ∙ two.handle in
    let low : third / 2 ^ 40 ≡ number 0 0 0 0 0 n o p = ap (λ x. x / 2 ^ 40) i3 ∙ three.handle in
    let table_is : number a b c d e f g h ≡ flip = omega (arith, one.high, two.low) in
    let number_is : number i j k l m n o p ≡ second % 2 ^ 40 * 2 ^ 24 + third / 2 ^ 40 = omega (arith, high, low) in
    let spelled = groups_read table a b c d e f g h i j k l m n o p handle (table_is ∙ flip_is) (ap unflipped number_is ∙ sym is) in
    rw (one.mark, e1, two.line_is, two.r_is, e2, three.pad1, three.pad2, three.pad3, three.pad4, three.pad5, e3) spelled
found table (t ∷ a ∷ b ∷ c ∷ d ∷ e ∷ f ∷ g ∷ m1 ∷ h ∷ line ∷ r ∷ i ∷ j ∷ k ∷ l ∷ m ∷ m2 ∷ n ∷ o ∷ p ∷ p1 ∷ p2 ∷ p3 ∷ p4 ∷ p5 ∷ m3 ∷ more ∷ rest) flip first second third handle len bytes e1 e2 e3 fits flip_is i1 i2 i3 q1 q2 q3 is = absurd (omega (arith, len))
found table key flip first second third handle len bytes e1 e2 e3 fits flip_is i1 i2 i3 q1 q2 q3 is = absurd (omega (arith, len))

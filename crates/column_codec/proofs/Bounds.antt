-- Bounds of numbers that are read seven bits at a time.
use Rattle.std.proofs.Common.{◌≡◌, ◌≢◌, ℕ, zero, suc, ◌+◌, ◌-◌, ◌*◌, ◌^◌, ◌<◌, ◌≤◌, refl, arith, lit<}
use Rattle.std.proofs.Math.Nat.{pow-succ', one-le-pow, pow-le-pow_right}

pub small_fits : (b more : ℕ) → b < 128 → more ≢ 0 → b < 2 * 128 ^ more
small_fits b zero h ne = absurd (ne refl)
small_fits b (suc k) h ne = omega (arith, pow-succ' 128 k, one-le-pow k 128 (lit< tt))

pub more_fits : (b high more : ℕ) → b < 256 → more ≢ 0 → high < 2 * 128 ^ (more - 1) → b - 128 + 128 * high < 2 * 128 ^ more
more_fits b high zero h ne below = absurd (ne refl)
more_fits b high (suc k) h ne below =
    let e : suc k - 1 ≡ k = omega arith in
    let below' : high < 2 * 128 ^ k = rw e at below in
    omega (arith, pow-succ' 128 k)

pub all_fit : (n more : ℕ) → more < 9 → n < 2 * 128 ^ more → n < 2 ^ 57
all_fit n more h below =
    let top : 128 ^ more ≤ 128 ^ 8 = pow-le-pow_right (lit< tt) {i = more} {j = 8} (omega arith) in
    omega arith

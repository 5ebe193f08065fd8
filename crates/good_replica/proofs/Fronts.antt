-- The front of a handle, as the applied set grows.
use Rattle.std.proofs.Common.{◌≡◌, ◌⊎◌, inl, inr, ◌∙◌, refl, sym, ap, ℕ, zero, suc, ◌<◌, ◌≤◌, ℤ, Bool, true, false, true≢false, cond, ◌&&◌, ◌||◌, length, arith}
use Rattle.std.specs.Prelude.{◌==◌}
use Rattle.committed_log.specs.Log.{Log}
use Rattle.committed_log.specs.Applied.{with_position}
use Rattle.committed_log.specs.Laws.{touches}
use Rattle.good_replica.specs.Front.{front, front_below}
use Rattle.good_replica.proofs.Facts.{le_or, and_true}
use Rattle.committed_log.proofs.Ranks.{same_number}

module _ (log : Log) (h : ℤ) where
  -- each applied position that touches is below the front
  pub below_front : (A : ℕ → Bool) (n x : ℕ) → x < n → A x ≡ true → touches log h x ≡ true → x < front_below log A h n
  below_front A zero x less a t = absurd (omega (arith, less))
  below_front A (suc n) x less a t = by (A n && touches log h n) refl (le_or (suc x) n (omega (arith, less))) (λ le. below_front A n x (omega (arith, le)) a t)
    where
      by : (b : Bool) → (A n && touches log h n) ≡ b → (suc x ≤ n) ⊎ (suc x ≡ suc n) → (suc x ≤ n → x < front_below log A h n) → x < cond b (suc n) (front_below log A h n)
      by true is or rest = omega (arith, less)
      by false is (inl le) rest = rest le
      by false is (inr same) rest =
          let e : x ≡ n = omega (arith, same) in
          absurd (true≢false (sym (and_true (A n) (touches log h n) (sym (ap A e) ∙ a) (sym (ap (touches log h) e) ∙ t)) ∙ is))

  -- the front is 0, or one past an applied position that touches
  pub front_touches : (A : ℕ → Bool) (n : ℕ) → (front_below log A h n ≡ 0) ⊎ ((x : ℕ) × (front_below log A h n ≡ suc x) × (x < n) × ((A x && touches log h x) ≡ true))
  front_touches A zero = inl refl
  front_touches A (suc n) = by (A n && touches log h n) refl (front_touches A n)
    where
      by : (b : Bool) → (A n && touches log h n) ≡ b → (front_below log A h n ≡ 0) ⊎ ((x : ℕ) × (front_below log A h n ≡ suc x) × (x < n) × ((A x && touches log h x) ≡ true)) → (cond b (suc n) (front_below log A h n) ≡ 0) ⊎ ((x : ℕ) × (cond b (suc n) (front_below log A h n) ≡ suc x) × (x < suc n) × ((A x && touches log h x) ≡ true))
      by true is rest = inr (n, refl, omega arith, is)
      by false is (inl none) = inl none
      by false is (inr r) = inr (r.0, r.1, omega (arith, r.2), r.3)

  -- a set with fewer positions has no higher front
  pub front_within : (A B : ℕ → Bool) (n : ℕ) → ((x : ℕ) → A x ≡ true → B x ≡ true) → front_below log A h n ≤ front_below log B h n
  front_within A B n within = elim (front_touches A n) [
    | inl none ↦ omega (arith, none)
    | inr r ↦ let both = parts (A r.0) (touches log h r.0) r.3 in let less = below_front B n r.0 r.2 (within r.0 both.0) both.1 in omega (arith, r.1, less)
  ]
    where
      parts : (a b : Bool) → (a && b) ≡ true → (a ≡ true) × (b ≡ true)
      parts true b e = (refl, e)
      parts false b e = absurd (true≢false (sym e))

  -- one position more, that doesn't touch
  pub front_other : (A : ℕ → Bool) (p n : ℕ) → touches log h p ≡ false → front_below log (with_position A p) h n ≡ front_below log A h n
  front_other A p zero out = refl
  front_other A p (suc n) out = by (n == p) refl (front_other A p n out)
    where
      untouched : (b : Bool) → touches log h n ≡ false → front_below log (with_position A p) h n ≡ front_below log A h n → cond ((b || A n) && touches log h n) (suc n) (front_below log (with_position A p) h n) ≡ cond (A n && touches log h n) (suc n) (front_below log A h n)
      untouched b off rest = (λ i. cond (falses (b || A n) off i) (suc n) (front_below log (with_position A p) h n)) ∙ rest ∙ sym (λ i. cond (falses (A n) off i) (suc n) (front_below log A h n))
        where
          falses : (a : Bool) → touches log h n ≡ false → (a && touches log h n) ≡ false
          falses true e = e
          falses false e = refl

      by : (b : Bool) → (n == p) ≡ b → front_below log (with_position A p) h n ≡ front_below log A h n → cond ((b || A n) && touches log h n) (suc n) (front_below log (with_position A p) h n) ≡ cond (A n && touches log h n) (suc n) (front_below log A h n)
      by true is rest = untouched true (ap (touches log h) (same_number n p is) ∙ out) rest
      by false is rest = ap (λ f. cond (A n && touches log h n) (suc n) f) rest

  -- one position more, that touches, with no applied toucher above it
  pub front_next : (A : ℕ → Bool) (p n : ℕ) → p < n → touches log h p ≡ true → ((x : ℕ) → A x ≡ true → touches log h x ≡ true → x < p) → front_below log (with_position A p) h n ≡ suc p
  front_next A p n less t above = elim (front_touches (with_position A p) n) [
    | inl none ↦ absurd (omega (arith, none, low))
    | inr r ↦ by r.0 r.1 (r.0 == p) refl r.3
  ]
    where
      itself : (p == p) ≡ true
      itself = grind arith

      low : p < front_below log (with_position A p) h n
      low = below_front (with_position A p) n p less (ap (λ b. b || A p) itself) t

      parts : (a b : Bool) → (a && b) ≡ true → (a ≡ true) × (b ≡ true)
      parts true b e = (refl, e)
      parts false b e = absurd (true≢false (sym e))

      by : (x : ℕ) → front_below log (with_position A p) h n ≡ suc x → (b : Bool) → (x == p) ≡ b → ((b || A x) && touches log h x) ≡ true → front_below log (with_position A p) h n ≡ suc p
      by x is true same e = is ∙ ap suc (same_number x p same)
      by x is false same e = let both = parts (A x) (touches log h x) e in let under = above x both.0 both.1 in absurd (omega (arith, is, low, under))

  -- a front isn't above a number that is above each position of the set
  pub front_under : (A : ℕ → Bool) (n m : ℕ) → ((x : ℕ) → A x ≡ true → x < m) → front_below log A h n ≤ m
  front_under A n m under = elim (front_touches A n) [
    | inl none ↦ omega (arith, none)
    | inr r ↦ let less = under r.0 (first (A r.0) (touches log h r.0) r.3) in omega (arith, r.1, less)
  ]
    where
      first : (a b : Bool) → (a && b) ≡ true → a ≡ true
      first true b e = refl
      first false b e = absurd (true≢false (sym e))

  -- no front is past the log's end
  pub front_length : (A : ℕ → Bool) → front log A h ≤ length log.entries
  front_length A = elim (front_touches A (length log.entries)) [ inl none ↦ omega (arith, none) | inr r ↦ omega (arith, r.1, r.2) ]

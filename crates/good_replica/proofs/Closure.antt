-- The front of a handle as a closed set takes its next position.
use Rattle.std.proofs.Common.{◌≡◌, ◌⊎◌, inl, inr, ◌∙◌, refl, sym, ap, ℕ, suc, ◌<◌, ◌≤◌, ℤ, Bool, true, false, true≢false, ◌||◌, length, arith}
use Rattle.std.proofs.lemmas.Option.{slice_get_within}
use Rattle.std.specs.Prelude.{◌==◌}
use Rattle.committed_log.specs.Applied.{IsClosed, with_position}
use Rattle.committed_log.specs.Lawful.{IsLawful}
use Rattle.committed_log.specs.Laws.{touches}
use Rattle.committed_log.specs.Log.{Log}
use Rattle.committed_log.proofs.Faults.{or_first}
use Rattle.committed_log.proofs.Touching.{touched_by, touch_closed}
use Rattle.good_replica.specs.Front.{front}
use Rattle.good_replica.proofs.Fronts.{front_next, below_front}
use Rattle.committed_log.proofs.Ranks.{same_number}
use Rattle.committed_log.proofs.Closed.{same_is}

pub touch_within : (log : Log) (h : ℤ) (x : ℕ) → touches log h x ≡ true → x < length log.entries
touch_within log h x t = (let e = touched_by log h x t in slice_get_within log.entries x e.0 e.1)

-- The next position of a closed set that touches a handle: the set has each earlier one, and no later one; none between the front and it touches; and it becomes the front.
module _ (log : Log) (lawful : IsLawful log) (h : ℤ) (A : ℕ → Bool) (closed : IsClosed log A) (p : ℕ) (free : A p ≡ false) (more : IsClosed log (with_position A p)) (t : touches log h p ≡ true) where
  earlier_applied : (q : ℕ) → q < p → touches log h q ≡ true → A q ≡ true
  earlier_applied q less tq = by (q == p) refl (touch_closed log lawful h (with_position A p) more p q (or_first (p == p) (A p) (same_is p)) t less tq)
    where
      by : (b : Bool) → (q == p) ≡ b → (b || A q) ≡ true → A q ≡ true
      by true same e = (let s = same_number q p same in absurd (omega (arith, less, s)))
      by false same e = e

  pub no_later : (x : ℕ) → A x ≡ true → touches log h x ≡ true → x < p
  no_later x a tx = by (cases x)
    where
      cases : (x : ℕ) → (x < p) ⊎ ((x ≡ p) ⊎ (p < x))
      cases x = grind arith

      by : (x < p) ⊎ ((x ≡ p) ⊎ (p < x)) → x < p
      by (inl less) = less
      by (inr (inl same)) = absurd (true≢false (sym a ∙ ap A same ∙ free))
      by (inr (inr above)) = absurd (true≢false (sym (touch_closed log lawful h A closed x p a tx above t) ∙ free))

  pub next_front : front log (with_position A p) h ≡ suc p
  next_front = front_next log h A p (length log.entries) (touch_within log h p t) t no_later

  pub none_between : (x : ℕ) → front log A h ≤ x → x < p → touches log h x ≡ false
  none_between x low less = by (touches log h x) refl
    where
      by : (b : Bool) → touches log h x ≡ b → touches log h x ≡ false
      by false e = e
      by true e = (let b = below_front log h A (length log.entries) x (touch_within log h x e) (earlier_applied x less e) e in absurd (omega (arith, low, b)))

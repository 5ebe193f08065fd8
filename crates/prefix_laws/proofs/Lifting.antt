-- What is good at the counts from one on is good below it too, where the files are the same.
use Rattle.std.proofs.Common.{◌≡◌, ◌⊎◌, inl, inr, refl, sym, subst, ℕ, ◌<◌, ◌≤◌, nat_le, ℤ, Bool, true, false, arith, length}
use Rattle.committed_log.specs.Lawful.{IsLawful}
use Rattle.committed_log.specs.Log.{Log}
use Rattle.good_replica.specs.Front.{front}
use Rattle.good_replica.specs.Good.{IsGoodOn}
use Rattle.good_replica.specs.Trail.{Trail}
use Rattle.good_replica.proofs.Commits.{history}
use Rattle.good_replica.proofs.Fronts.{front_within, front_under}
use Rattle.good_replica.proofs.Kept.{front_down}
use Rattle.prefix_laws.specs.Prefixes.{AreSteps}

pub le_or_lt : (a b : ℕ) → (a ≤ b) ⊎ (b < a)
le_or_lt a b = test (nat_le a b) refl
  where
    test : (x : Bool) → nat_le a b ≡ x → (a ≤ b) ⊎ (b < a)
    test true e = inl (grind arith)
    test false e = inr (grind arith)

-- For one handle: the trails from a count on are good, and those below it are the one there.
pub lift_on : (log : Log) → IsLawful log → (h : ℤ) (S : ℕ → ℕ → Bool) (m safe last at : ℕ) → AreSteps S m last → at ≤ last → (t : ℕ → Trail) →
    ((k : ℕ) → at ≤ k → k ≤ last → IsGoodOn log h (front log (S k) h) m safe (t k)) → (k : ℕ) → k ≤ last → (k < at → t k ≡ t at) → IsGoodOn log h (front log (S k) h) m safe (t k)
lift_on log lawful h S m safe last at steps within t above k high same = by (le_or_lt at k)
  where
    by : (at ≤ k) ⊎ (k < at) → IsGoodOn log h (front log (S k) h) m safe (t k)
    by (inl le) = above k le high
    by (inr lt) = subst (IsGoodOn log h (front log (S k) h) m safe) (sym (same lt))
        (front_down (history log lawful h) (front log (S k) h) (front log (S at) h) m safe (t at)
        (front_within log h (S k) (S at) (length log.entries) (steps.grow k at (omega (arith, lt))))
        (front_under log h (S at) (length log.entries) m (λ x a. steps.below x (steps.grow at last within x a)))
        (above at (omega arith) within))

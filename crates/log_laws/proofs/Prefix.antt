-- The regions where the first n entries are applied.
use Rattle.std.proofs.Common.{◌≡◌, ◌⊎◌, ◌∙◌, inl, inr, sym, ap, ℕ, ◌<◌, ◌≤◌, false, ◌&&◌, nat_lt}
use Rattle.committed_log.specs.Applied.{acts_at, left_at, applied}
use Rattle.committed_log.specs.Lawful.{IsLawful}
use Rattle.committed_log.specs.Laws.{region_at}
use Rattle.committed_log.specs.Log.{Log}
use Rattle.committed_log.specs.declared.region.Region.TheVariants.{Unborn}
use Rattle.committed_log.proofs.Closed.{applied_is, applied_none}
use Rattle.committed_log.proofs.Places.{last_acting}
use Rattle.committed_log.proofs.Positions.{IsGreatest}
use Rattle.committed_log.proofs.Ranks.{acts_within}
use Rattle.log_laws.proofs.Small.{and_false, and_true, is_lt, not_lt, order}

module _ (log : Log) (lawful : IsLawful log) (n r : ℕ) where
  off : (q : ℕ) → (q < n → acts_at log r q ≡ false) → (nat_lt q n && acts_at log r q) ≡ false
  off q none = by (order n q)
    where
      by : (n ≤ q) ⊎ (q < n) → (nat_lt q n && acts_at log r q) ≡ false
      by (inl le) = ap (λ b. b && acts_at log r q) (not_lt q n le)
      by (inr less) = ap (λ b. nat_lt q n && b) (none less) ∙ and_false (nat_lt q n)

  pub prefix_is : applied log (λ p. nat_lt p n) r ≡ region_at log r n
  prefix_is = by (last_acting log lawful r n)
    where
      by : (((q : ℕ) → q < n → acts_at log r q ≡ false) × (region_at log r n ≡ Unborn)) ⊎ ((q : ℕ) × IsGreatest (acts_at log r) n q × (region_at log r n ≡ left_at log r q)) → applied log (λ p. nat_lt p n) r ≡ region_at log r n
      by (inl none) = applied_none log (λ p. nat_lt p n) r (λ q low. off q (none.0 q)) ∙ sym none.1
      by (inr some) = applied_is log (λ p. nat_lt p n) r some.0 (record {
        below = acts_within log lawful r some.0 some.1.passes;
        passes = and_true (nat_lt some.0 n) (acts_at log r some.0) (is_lt some.0 n some.1.below) some.1.passes;
        later = λ q after low. off q (λ less. some.1.later q after less);
      }) ∙ sym some.2

-- The table where nothing is applied.
use Rattle.std.proofs.Common.{◌≡◌, ◌∙◌, refl, sym, ap, ℕ, false, true≢false, List, [], ◌∷◌, filter, length, arith}
use Rattle.committed_log.specs.Applied.{positions}
use Rattle.committed_log.specs.Log.{Log}
use Rattle.committed_log.proofs.Closed.{applied_none}
use Rattle.region_table.specs.Table.{IsTableAt, empty_table, is_there, kept_at}
use Rattle.region_table.proofs.Counts.{first_by}

none_kept : (xs : List ℕ) → length (filter (λ (_ : ℕ). false) xs) ≡ 0
none_kept [] = refl
none_kept (x ∷ xs) = none_kept xs

pub empty_is : (log : Log) → IsTableAt log (λ _. false) empty_table
empty_is log = record {
  closed = record { within = λ p a. absurd (true≢false (sym a)); earlier = λ p q later e a less x y w. absurd (true≢false (sym a)) };
  regions = λ r. sym (ap (kept_at log r) (applied_none log (λ _. false) r (λ q low. refl)));
  counted = record { count = sym (none_kept (positions log)); first = sym (first_by (λ _. false) (length log.entries) 0 (omega arith) (λ q low. absurd (omega (arith, low))) (λ less. refl)) };
  nexts = record { each = λ q some. absurd (true≢false (sym some)); all = λ q r there next. absurd (true≢false (sym there ∙ ap is_there (applied_none log (λ _. false) r (λ q low. refl)))) };
}

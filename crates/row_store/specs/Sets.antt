-- Sets of applied entries.
use Rattle.std.specs.Prelude.{ℕ, ◌≤◌, length, [], ◌∷◌}
use Rattle.committed_log.specs.Applied.{IsClosed}
use Rattle.committed_log.specs.Log.{Log}
use Rattle.row_store.specs.Logs.{log_of, first, these}
use Rattle.row_store.specs.ManyRegions.{two_merged}

-- entries that are applied in the order of the log make closed sets
abbrev pub PrefixesAreClosed : Type 0
PrefixesAreClosed = (log : Log) (n : ℕ) → n ≤ length log.entries → IsClosed log (first n)

-- the two regions of the merge may advance by themselves, but its commit needs the source's prepare
pub record MergesWait : Type 0 where
  pub apart : IsClosed (log_of two_merged) (these (0 ∷ 1 ∷ []))
  pub early : IsClosed (log_of two_merged) (these (0 ∷ 1 ∷ 4 ∷ [])) → ⊥

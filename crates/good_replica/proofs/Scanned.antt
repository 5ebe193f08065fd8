-- Rows that good trails show are the rows of the read.
use Rattle.std.proofs.Common.{◌≡◌, ℕ, ℤ, Bool, true, List, option_map}
use Rattle.std.specs.List.{Contains}
use Rattle.column_block.specs.declared.cell.Row.{Row}
use Rattle.flash_types.specs.Ranges.{holds}
use Rattle.flash_types.specs.declared.range.HandleRange.{HandleRange}
use Rattle.flash_types.specs.declared.refusal.Cut.{Cut}
use Rattle.committed_log.specs.Applied.{IsClosed}
use Rattle.committed_log.specs.Lawful.{IsLawful}
use Rattle.committed_log.specs.Log.{Log}
use Rattle.committed_log.specs.Reads.{cells, commits_of, rows, shown}
use Rattle.log_laws.specs.Rows.{cells_on}
use Rattle.log_laws.proofs.Found.{found_is}
use Rattle.good_replica.specs.Shown.{AreShown}
use Rattle.good_replica.specs.Trail.{present}
use Rattle.good_replica.proofs.Answering.{settled_shows}
use Rattle.good_replica.proofs.Settled.{shows_one}

module _ (log : Log) (lawful : IsLawful log) (A : ℕ → Bool) (closed : IsClosed log A) (m safe : ℕ) (cuts : List Cut) (ts : ℕ) (clip : HandleRange) (found : List Row) (are : AreShown log A m safe cuts ts clip found) where
  seen : (cut : Cut) → Contains cuts cut → (h : ℤ) → holds cut.range h ≡ true → holds clip h ≡ true → cells_on h found ≡ option_map (cells log.schema) (shown (commits_of log cut) ts h)
  seen cut there h held within =
      let good = are.good cut there h held within in
      let is = are.settled cut there in
      shows_one (present good.0) ts (cells_on h found) (option_map (cells log.schema) (shown (commits_of log cut) ts h)) good.2
      (settled_shows log lawful A closed cut.region cut.index m safe ts cut.range is.range is.index is.settled h good.0 held are.time good.1)

  pub shown_is : found ≡ rows log cuts ts clip
  shown_is = found_is log cuts ts clip found (record { rise = are.rise; others = are.others; seen = seen })

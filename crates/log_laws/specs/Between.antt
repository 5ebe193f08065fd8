-- Replies that are right for one set of applied entries between two.
use Rattle.std.specs.Prelude.{ℕ, Bool, Option}
use Rattle.column_block.specs.declared.column.Bound.{Bound}
use Rattle.flash_types.specs.Asks.{Asked}
use Rattle.committed_log.specs.Applied.{IsClosed}
use Rattle.committed_log.specs.Laws.{IsInside}
use Rattle.committed_log.specs.Log.{Log}
use Rattle.committed_log.specs.Replies.{Reply, IsRight}

-- There is one closed set, with all of the lower set and nothing outside of the upper one, for which the whole reply is right.
pub record IsRightBetween (log : Log) (ask : Asked) (bound : Option Bound) (lower upper : ℕ → Bool) (safe mark : ℕ) (reply : Reply) : Type 0 where
  pub set : ℕ → Bool
  pub closed : IsClosed log set
  pub above : IsInside lower set
  pub below : IsInside set upper
  pub right : IsRight log ask bound set safe mark reply

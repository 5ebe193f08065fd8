-- Rows that the files of a replica show at the cuts of a read.
use Rattle.std.specs.Prelude.{◌≡◌, ℕ, ◌≤◌, ℤ, Bool, true, false, None, List, map}
use Rattle.std.specs.List.{Contains}
use Rattle.std.specs.List.Sorted.{IsStrictlySortedBy}
use Rattle.std.specs.Ordering.{int_cmp}
use Rattle.column_block.specs.declared.cell.Row.{Row}
use Rattle.flash_types.specs.Ranges.{holds}
use Rattle.flash_types.specs.declared.range.HandleRange.{HandleRange}
use Rattle.flash_types.specs.declared.refusal.Cut.{Cut}
use Rattle.committed_log.specs.Log.{Log}
use Rattle.log_laws.specs.Rows.{IsSettledCut, cells_on, is_wanted, row_on}
use Rattle.good_replica.specs.Front.{front}
use Rattle.good_replica.specs.Good.{IsGoodOn}
use Rattle.good_replica.specs.Shows.{Shows}
use Rattle.good_replica.specs.Trail.{Trail, present}

-- The timestamp isn't below the safe point, and each cut is of a region that is settled for the mark. The rows rise by handle; of a handle that isn't wanted there is none, and of one that is they have what the present versions of a good trail show.
pub record AreShown (log : Log) (A : ℕ → Bool) (m safe : ℕ) (cuts : List Cut) (ts : ℕ) (clip : HandleRange) (rows : List Row) : Type 0 where
  pub time : safe ≤ ts
  pub settled : (cut : Cut) → Contains cuts cut → IsSettledCut log A m cut
  pub rise : IsStrictlySortedBy int_cmp (map (λ (row : Row). row.handle) rows)
  pub others : (h : ℤ) → is_wanted clip cuts h ≡ false → row_on h rows ≡ None
  pub good : (cut : Cut) → Contains cuts cut → (h : ℤ) → holds cut.range h ≡ true → holds clip h ≡ true → (t : Trail) × IsGoodOn log h (front log A h) m safe t × Shows (present t) ts (cells_on h rows)

-- Rows that were found handle by handle, and the cuts of a read that isn't refused.
use Rattle.std.specs.Prelude.{◌≡◌, ℕ, ℤ, Bool, true, false, ◌&&◌, Some, None, Option, List, find, map, option_map}
use Rattle.std.specs.List.{Contains, list_any}
use Rattle.std.specs.List.Sorted.{IsStrictlySortedBy}
use Rattle.std.specs.Ordering.{int_cmp, int_eq}
use Rattle.column_block.specs.declared.cell.Cell.{Cell}
use Rattle.column_block.specs.declared.cell.Row.{Row}
use Rattle.flash_types.specs.Ranges.{holds}
use Rattle.flash_types.specs.declared.range.HandleRange.{HandleRange}
use Rattle.flash_types.specs.declared.refusal.Cut.{Cut}
use Rattle.committed_log.specs.Applied.{applied, is_settled}
use Rattle.committed_log.specs.Log.{Log}
use Rattle.committed_log.specs.Reads.{cells, commits_of, shown}
use Rattle.committed_log.specs.Regions.{index_of, range_of}

-- the row of a handle, where there is one
abbrev pub row_on : ℤ → List Row → Option Row
row_on h rows = find (λ (row : Row). int_eq row.handle h) rows

abbrev pub cells_on : ℤ → List Row → Option (List Cell)
cells_on h rows = option_map (λ (row : Row). row.cells) (row_on h rows)

-- a read of these cuts wants the handle
abbrev pub is_wanted : HandleRange → List Cut → ℤ → Bool
is_wanted clip cuts h = holds clip h && list_any (λ (cut : Cut). holds cut.range h) cuts

-- The rows rise by handle. Of a handle that isn't wanted there is none, and of one that is wanted the cells are those of what the commits of the cut show.
pub record AreFound (log : Log) (cuts : List Cut) (ts : ℕ) (clip : HandleRange) (rows : List Row) : Type 0 where
  pub rise : IsStrictlySortedBy int_cmp (map (λ (row : Row). row.handle) rows)
  pub others : (h : ℤ) → is_wanted clip cuts h ≡ false → row_on h rows ≡ None
  pub seen : (cut : Cut) → Contains cuts cut → (h : ℤ) → holds cut.range h ≡ true → holds clip h ≡ true → cells_on h rows ≡ option_map (cells log.schema) (shown (commits_of log cut) ts h)

-- the cut is of a region as the applied entries leave it, which is settled for the mark
pub record IsSettledCut (log : Log) (A : ℕ → Bool) (mark : ℕ) (cut : Cut) : Type 0 where
  pub range : range_of (applied log A cut.region) ≡ Some cut.range
  pub index : index_of (applied log A cut.region) ≡ Some cut.index
  pub settled : is_settled log A mark cut.region ≡ true

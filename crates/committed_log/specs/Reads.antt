-- To be believed.
-- What a read shows: Percolator's snapshot read.
use Rattle.std.specs.Prelude.{ℕ, suc, ℤ, Bool, Option, Some, None, Ok, Err, List, [], nat_le, if◌then◌else◌, option_map, filter, find, flat_map}
use Rattle.std.specs.Option.{option_and_then}
use Rattle.std.specs.Ordering.{int_cmp}
use Rattle.std.specs.BTreeMap.{insert_entry}
use Rattle.std.specs.Map.{keys_of}
use Rattle.std.specs.List.{fold, filter_map}
use Rattle.column_block.specs.Cells.{cells_of}
use Rattle.column_block.specs.Numbers.{has_bound}
use Rattle.column_block.specs.declared.cell.Cell.{Cell}
use Rattle.column_block.specs.declared.cell.Row.{Row}
use Rattle.column_block.specs.declared.column.Bound.{Bound}
use Rattle.column_block.specs.declared.column.Column.{Column}
use Rattle.flash_types.specs.Ranges.{holds}
use Rattle.flash_types.specs.declared.range.HandleRange.{HandleRange}
use Rattle.flash_types.specs.declared.refusal.Cut.{Cut}
use Rattle.row_codec.specs.Rows.{row_at}
use Rattle.committed_log.specs.Store.{Commit, newest}
use Rattle.committed_log.specs.Log.{Log, at, end}
use Rattle.committed_log.specs.Applied.{place}

-- ---- the read rule

-- the value of the newest commit on a handle up to a timestamp; nothing, where that is a delete or there is none
abbrev pub shown : List Commit → ℕ → ℤ → Option (List ℕ)
shown commits ts h = option_and_then (λ (c : Commit). c.value) (newest (λ c. nat_le c.ts ts) h commits)

-- the cells of a value, one for each column of the schema; a value that a lawful log commits has them
abbrev pub cells : List Column → List ℕ → List Cell
cells schema value = elim (row_at value) [ Err e ↦ [] | Ok row ↦ elim (cells_of schema row) [ Err id ↦ [] | Ok found ↦ found ] ]

abbrev pub row_of : List Column → ℤ → List ℕ → Row
row_of schema h value = record { handle = h; cells = cells schema value }

-- the handles of commits, rising, each once
abbrev pub handles : List Commit → List ℤ
handles commits = keys_of (fold (λ (found : List (ℤ × Unit {0})) (c : Commit). insert_entry int_cmp found c.handle tt) [] commits)

-- ---- reads of regions

-- the commits that a read of a region sees at an index: those up to the position of the index
abbrev pub commits_at : Log → ℕ → ℕ → List Commit
commits_at log r index = elim (place log r index) [ None ↦ [] | Some p ↦ (at log (suc p)).commits ]

abbrev pub commits_of : Log → Cut → List Commit
commits_of log cut = commits_at log cut.region cut.index

-- what the cut that holds the handle shows of it
abbrev pub shown_by : Log → List Cut → ℕ → ℤ → Option (List ℕ)
shown_by log cuts ts h = option_and_then (λ cut. shown (commits_of log cut) ts h) (find (λ (cut : Cut). holds cut.range h) cuts)

abbrev pub row_of_handle : Log → List Cut → ℕ → HandleRange → ℤ → Option Row
row_of_handle log cuts ts clip h = if holds clip h then option_map (row_of log.schema h) (shown_by log cuts ts h) else None

-- The rows of the handles within the clip that the cuts' regions show at the timestamp, in rising order of the handles.
abbrev pub rows : Log → List Cut → ℕ → HandleRange → List Row
rows log cuts ts clip = filter_map (row_of_handle log cuts ts clip) (handles (flat_map (commits_of log) cuts))

-- ---- a filter on a number column

-- whether the cell in the bound's column is a number from its low to its high end
abbrev pub is_within : Bound → Row → Bool
is_within bound row = has_bound bound row.cells

-- the rows that a read with a bound keeps
abbrev pub kept : Option Bound → List Row → List Row
kept None found = found
kept (Some bound) found = filter (is_within bound) found

-- ---- the rows at the log's end, whatever regions and locks there are

abbrev pub rows_at_end : Log → ℕ → List Row
rows_at_end log ts =
    let commits = (end log).commits in
    filter_map (λ h. option_map (row_of log.schema h) (shown commits ts h)) (handles commits)

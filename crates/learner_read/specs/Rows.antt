-- Which rows versions show at a timestamp, and which of them a read asks for.
use Rattle.std.specs.Prelude.{ℕ, ℤ, Bool, not, ◌&&◌, nat_lt, nat_le, Option, List, filter, find, option_map}
use Rattle.std.specs.List.{list_any}
use Rattle.std.specs.Ordering.{int_eq}
use Rattle.column_block.specs.declared.cell.Cell.{Cell}
use Rattle.column_block.specs.declared.cell.Version.{Version}
use Rattle.flash_types.specs.Ranges.{holds}
use Rattle.flash_types.specs.declared.range.HandleRange.{HandleRange}
use Rattle.flash_types.specs.declared.refusal.Cut.{Cut}

-- w is a version of the same row, newer than v and not above ts
abbrev pub is_newer : ℕ → Version → Version → Bool
is_newer ts v w = int_eq w.handle v.handle && (nat_lt v.ts w.ts && nat_le w.ts ts)

-- Percolator's rule: of a row's versions that aren't above ts the newest is shown, where it is a put
abbrev pub is_shown : ℕ → List Version → Version → Bool
is_shown ts versions v = nat_le v.ts ts && (not v.gone && not (list_any (is_newer ts v) versions))

-- the versions that are shown at ts, one for each row that is there
abbrev pub shown_rows : ℕ → List Version → List Version
shown_rows ts versions = filter (is_shown ts versions) versions

-- whether a read asks for the handle: it is in the clip and in the range of one of the cuts
abbrev pub is_asked : HandleRange → List Cut → ℤ → Bool
is_asked clip cuts h = holds clip h && list_any (λ (cut : Cut). holds cut.range h) cuts

abbrev pub rows_within : HandleRange → List Cut → List Version → List Version
rows_within clip cuts rows = filter (λ (v : Version). is_asked clip cuts v.handle) rows

-- the cells of a handle's row, where it is among these
abbrev pub cells_on : ℤ → List Version → Option (List Cell)
cells_on h rows = option_map (λ (v : Version). v.cells) (find (λ (v : Version). int_eq v.handle h) rows)

-- The numbers of a pack that its footer tells.
use Rattle.std.specs.Prelude.{ℕ, ◌+◌, ◌-◌, ◌^◌, min, ℤ, pos, Bool, true, false, ◌&&◌, ◌==◌, int_lt, List, [], ◌∷◌, length, take, drop, slice_index_or, if◌then◌else◌, Result, Ok, Err}
use Rattle.std.specs.Ordering.{int_eq}
use Rattle.flash_list.specs.Steps.{◌>>=◌}
use Rattle.column_block.specs.declared.column.Column.{Column}
use Rattle.column_block.specs.declared.column.MinMax.{MinMax}
use Rattle.column_block.specs.declared.column.MinMax.TheVariants.{Empty, Of}
use Rattle.column_block.specs.declared.cell.Cell.{Cell}
use Rattle.column_block.specs.declared.cell.Cell.TheVariants as cell
use Rattle.column_block.specs.declared.cell.Version.{Version}
use Rattle.pack_codec.specs.declared.fault.FormError.{FormError}
use Rattle.pack_codec.specs.declared.fault.FormError.TheVariants.{Damaged}
use Rattle.pack_codec.specs.Spelling.{cell_of}
use Rattle.stable_file.specs.declared.pack.Pack.{Pack}
use Rattle.stable_file.specs.Packs.{versions_in}

-- a range with one more number
abbrev pub widened : MinMax → ℤ → MinMax
widened Empty n = Of n n
widened (Of least greatest) n = Of (if int_lt n least then n else least) (if int_lt greatest n then n else greatest)

-- a range with a cell's number; null and bytes have none
abbrev pub with_cell : MinMax → Cell → MinMax
with_cell range (cell.Int n) = widened range n
with_cell range (cell.Uint n) = widened range (pos n)
with_cell range _ = range

-- a range with the numbers that these versions have in a column
abbrev pub range_with : ℕ → MinMax → List Version → MinMax
range_with column range [] = range
range_with column range (v ∷ vs) = range_with column (with_cell range (cell_of column v)) vs

abbrev pub same_range : MinMax → MinMax → Bool
same_range Empty Empty = true
same_range (Of a b) (Of c d) = int_eq a c && int_eq b d
same_range _ _ = false

-- whether these are the ranges of the columns from this one on
abbrev pub are_ranges : List MinMax → ℕ → List Version → Bool
are_ranges [] column versions = true
are_ranges (range ∷ ranges) column versions = same_range range (range_with column Empty versions) && are_ranges ranges (column + 1) versions

abbrev pub handle_at : List Version → ℕ → ℤ
handle_at versions i = (slice_index_or versions i (record { handle = pos 0; ts = 0; gone = false; cells = [] })).handle

-- whether a pack has what its footer tells of it
abbrev pub is_as_told : Pack → List Version → Bool
is_as_told pack versions = length versions == pack.count && (int_eq (handle_at versions 0) pack.low && (int_eq (handle_at versions (length versions - 1)) pack.high && are_ranges pack.ranges 0 versions))

-- The versions of a pack that the footer tells of, all of the bytes. A pack that the footer belies is named by its place.
unfoldable pub told_at : Pack → ℕ → List Column → List ℕ → Result (List Version) FormError
told_at pack end columns bytes = versions_in end pack.place columns bytes >>= λ versions. if is_as_told pack versions then Ok versions else Err (Damaged pack.place)

-- the place behind the bytes that stand at a place, as far as 64 bits go
abbrev pub reached : ℕ → List ℕ → ℕ
reached place bytes = min (2 ^ 64 - 1) (place + length bytes)

-- the same of the pack where the footer tells that it lies in the file's content
abbrev pub told_in : Pack → List Column → List ℕ → Result (List Version) FormError
told_in pack columns content = told_at pack (reached pack.place (take pack.len (drop pack.place content))) columns (take pack.len (drop pack.place content))

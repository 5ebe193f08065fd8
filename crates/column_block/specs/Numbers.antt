-- The numbers of cells, and which cells a bound or a range lets through.
use Rattle.std.specs.Prelude.{ℕ, ℤ, pos, Bool, true, false, ◌&&◌, Option, Some, None, List, int_le, slice_get}
use Rattle.std.specs.Option.{option_and_then}
use Rattle.column_block.specs.declared.cell.Cell.{Cell}
use Rattle.column_block.specs.declared.cell.Cell.TheVariants as cell
use Rattle.column_block.specs.declared.column.Bound.{Bound}
use Rattle.column_block.specs.declared.column.MinMax.{MinMax}
use Rattle.column_block.specs.declared.column.MinMax.TheVariants as minmax

-- the number of a cell, where it has one
abbrev pub number_of : Cell → Option ℤ
number_of cell.Null = None
number_of (cell.Int n) = Some n
number_of (cell.Uint n) = Some (pos n)
number_of (cell.Bytes bytes) = None

-- the number of a row's cell in a column
abbrev pub number_in : ℕ → List Cell → Option ℤ
number_in column cells = option_and_then number_of (slice_get cells column)

-- whether a number lies from one end to the other, both included
abbrev pub is_between : ℤ → ℤ → ℤ → Bool
is_between low high n = int_le low n && int_le n high

-- whether the cell in the bound's column is a number from its low to its high end
abbrev pub has_bound : Bound → List Cell → Bool
has_bound bound cells = elim (number_in bound.column cells) [ None ↦ false | Some n ↦ is_between bound.low bound.high n ]

-- whether a number may stand in a column with this range of numbers
abbrev pub in_range : MinMax → ℤ → Bool
in_range minmax.Empty n = false
in_range (minmax.Of least greatest) n = is_between least greatest n

-- whether the cell in the column has no number, or one of the range
abbrev pub is_within_range : ℕ → MinMax → List Cell → Bool
is_within_range column range cells = elim (number_in column cells) [ None ↦ true | Some n ↦ in_range range n ]

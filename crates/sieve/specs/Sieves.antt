-- What a test of rows keeps, and which ranges of numbers it may let through. The test is a closure of cells, given by what its calls may answer.
use Rattle.std.specs.Prelude.{ℕ, Bool, true, false, ◌&&◌, ◌||◌, not, ◌==◌, Option, Some, None, List, IsTrue, ◌≡◌, int_le}
use Rattle.std.specs.Fn.{Shared, FnReturnsAt}
use Rattle.std.specs.Option.{ForSome}
use denote.Ref.{Bor}
use Rattle.column_block.specs.Numbers.{has_bound, is_within_range}
use Rattle.column_block.specs.declared.cell.Cell.{Cell}
use Rattle.column_block.specs.declared.column.Bound.{Bound}
use Rattle.column_block.specs.declared.column.MinMax.{MinMax}
use Rattle.column_block.specs.declared.column.MinMax.TheVariants as minmax

-- wherever the test may answer true, the bound's column has a number from low to high
abbrev pub KeepsBound : {F : Type 0} → Shared F (Bor (List Cell) × Unit {0}) Bool → F → Option Bound → Type 0
KeepsBound g test bound = ForSome bound (λ (b : Bound). (cells : List Cell) → FnReturnsAt g test cells true → has_bound b cells ≡ true)

-- the test answers true at no cells whose number in the column, if they have one there, is of the range
abbrev pub NonePass : {F : Type 0} → Shared F (Bor (List Cell) × Unit {0}) Bool → F → ℕ → MinMax → Type 0
NonePass g test column range = (cells : List Cell) → IsTrue (is_within_range column range cells) → FnReturnsAt g test cells true → ⊥

-- whether the two ranges of numbers have one in common
abbrev pub meets : Bound → MinMax → Bool
meets bound minmax.Empty = false
meets bound (minmax.Of least greatest) = int_le bound.low greatest && int_le least bound.high && int_le bound.low bound.high

-- whether rows of a pack with this range of numbers in the column may pass
abbrev pub may_pass : Option Bound → ℕ → MinMax → Bool
may_pass None column range = true
may_pass (Some bound) column range = not (bound.column == column) || meets bound range

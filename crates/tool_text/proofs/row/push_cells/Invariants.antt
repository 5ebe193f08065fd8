use Rattle.std.proofs.Common.{◌≡◌, ◌++◌, take}
use Rattle.tool_text.specs.Texts.{cells_text}
use Rattle.tool_text.proofs.row.push_cells.Given as goal

abbrev pub invariant-loop-cell : goal.invariant-loop-cell
invariant-loop-cell l = l.into.items ≡ l.fn.into.items ++ cells_text (take l.cell-index l.cells)

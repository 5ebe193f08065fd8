use Rattle.std.proofs.Common.{◌≡◌, List, ℕ, [], ◌∷◌, ◌++◌, take, append_assoc, ap, ◌∙◌}
use Rattle.tool_text.specs.Texts.{cells_text}
use Rattle.tool_text.proofs.Begins.{begins-then}
use Rattle.tool_text.proofs.row.push_cells.Goals as goal

pub returns-in-Err-clause-err : goal.returns-in-Err-clause-err
returns-in-Err-clause-err c =
    let so_far = ap (λ (text : List ℕ). text ++ 32 ∷ []) c.loop-cell.invariant in
    let is : c.push.new.into.items ≡ c.args.into.now.items ++ (cells_text (take c.loop-cell.cell-index c.args.cells.now) ++ 32 ∷ []) = c.in_ok-push.ensures.ok ∙ so_far ∙ simp append_assoc in
    begins-then c.args.into.now.items c.push.new.into.items c.push_cell.new.into.items (cells_text (take c.loop-cell.cell-index c.args.cells.now) ++ 32 ∷ []) is c.in-Err.ensures.err

use Rattle.std.proofs.Common.{SFits, w64, rules}
use Rattle.std.proofs.lemmas.Int.{to_z-of_z}
use Rattle.log_rows.proofs.Clearing.{backward, none_in}
use Rattle.log_rows.proofs.clear.first_handle.Goals as goal

pub returns-then-high-range-clause-none : goal.returns-then-high-range-clause-none
returns-then-high-range-clause-none c = λ _.
    let high : SFits w64 c.in-Some.high = search rules in
    let low : SFits w64 c.args.range.low = search rules in
    let le = simp to_z-of_z at c.if-high-range.true in
    none_in _ (λ e. backward c.args.range c.in-Some.high c.in-Some.is le e.0) c.args.handles.now.entries

use Rattle.std.proofs.Common.{SFits, w64, rules, sym, ap, ◌∙◌, ◌&&◌, int_le}
use Rattle.std.proofs.lemmas.Int.{to_z-of_z}
use Rattle.flash_types.specs.Ranges.{is_below}
use Rattle.log_rows.proofs.Clearing.{backward, none_in, same_in, between_handles}
use Rattle.log_rows.proofs.clear.first_value.Goals as goal

pub returns-then-high-range-clause-none : goal.returns-then-high-range-clause-none
returns-then-high-range-clause-none c = λ _.
    let high : SFits w64 c.in-Some.high = search rules in
    let low : SFits w64 c.args.range.low = search rules in
    let le = simp to_z-of_z at c.if-high-range.true in
    none_in _ (λ e. backward c.args.range c.in-Some.high c.in-Some.is le e.0.0) c.args.values.now.entries

pub returns-in_err-key-2-clause-none : goal.returns-in_err-key-2-clause-none
returns-in_err-key-2-clause-none c = λ _.
    let high : SFits w64 c.in-Some.high = search rules in
    let low : SFits w64 c.args.range.low = search rules in
    let between = simp to_z-of_z at c.range-2.ensures.between in
    same_in _ _ (λ e. ap (λ end. int_le c.args.range.low e.0.0 && is_below e.0.0 end) c.in-Some.is ∙ sym (between_handles c.args.range.low c.in-Some.high e.0)) c.args.values.now.entries ∙ sym (between _) ∙ c.in_err-key-2.ensures.steps.0

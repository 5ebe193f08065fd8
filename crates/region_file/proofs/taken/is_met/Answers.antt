use Rattle.std.proofs.Common.{◌∙◌, sym, ap, ◌||◌, rules, SFits, w64}
use Rattle.std.proofs.lemmas.Int.{to_z-of_z}
use Rattle.region_file.specs.Taken.{goes_past}
use Rattle.region_file.proofs.Meeting.{met_is, empty_any}
use Rattle.region_file.proofs.taken.is_met.Goals as goal

pub returns-then-not-is_filled : goal.returns-then-not-is_filled
returns-then-not-is_filled c = λ ranges taken. sym (empty_any c.args.range (sym c.is_filled.ensures ∙ c.if-not-is_filled.true) ranges)

pub returns-then-begins_within : goal.returns-then-begins_within
returns-then-begins_within c = λ ranges taken. sym (ap (λ b. b || goes_past c.args.range.low c.args.taken.now.entries) (sym c.begins_within.ensures ∙ c.if-begins_within.true)) ∙ met_is c.args.range (sym c.is_filled.ensures ∙ c.if-not-is_filled.false) c.args.taken.now.entries ranges c.len-len.ensures.ordered taken

pub returns : goal.returns
returns c =
    let fits : SFits w64 c.args.range.low = search rules in
    λ ranges taken. c.goes_past.ensures ∙ ap (λ h. goes_past h c.args.taken.now.entries) (to_z-of_z w64 _ fits) ∙ sym (ap (λ b. b || goes_past c.args.range.low c.args.taken.now.entries) (sym c.begins_within.ensures ∙ c.if-begins_within.false)) ∙ met_is c.args.range (sym c.is_filled.ensures ∙ c.if-not-is_filled.false) c.args.taken.now.entries ranges c.len-len.ensures.ordered taken

use Rattle.std.proofs.Common.{◌∙◌, sym, ap, ℤ, Option, None, Some, false, int_lt, filter, rules, SFits, w64}
use Rattle.std.proofs.lemmas.Int.{to_z-of_z}
use Rattle.flash_types.specs.Ranges.{is_below}
use Rattle.region_file.specs.Taken.{last_of}
use Rattle.region_file.proofs.Meeting.{last_push}
use Rattle.region_file.proofs.taken.goes_past.Goals as goal

pub returns-in-Some : goal.returns-in-Some
returns-in-Some c =
    let fits : SFits w64 c.args.handle = search rules in
    let same = to_z-of_z w64 _ fits in
    let those = c.below-those.ensures ∙ ap (λ h. filter (λ (e : ℤ × Option ℤ). int_lt e.0 h) c.args.taken.now.entries) same in
    c.is_below.ensures ∙ ap (λ h. is_below h c.in-Some.high.now) same
    ∙ sym (ap (λ o. elim o [ None ↦ false | Some e ↦ is_below c.args.handle e.1 ]) (ap last_of (sym those ∙ c.in-Some.ensures.steps) ∙ last_push c.next_back.new.self (c.in-Some.field-0-0.now, c.in-Some.high.now)))

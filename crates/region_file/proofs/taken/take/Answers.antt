use Rattle.std.proofs.Common.{◌∙◌, sym, refl, ap, rules, SFits, w64}
use Rattle.std.proofs.lemmas.Int.{to_z-of_z}
use Rattle.std.specs.BTreeMap.{insert_entry}
use Rattle.std.specs.Ordering.{int_cmp}
use Rattle.region_file.proofs.Meeting.{taken_more, taken_same}
use Rattle.region_file.proofs.taken.take.Goals as goal

pub returns-then-not-is_filled : goal.returns-then-not-is_filled
returns-then-not-is_filled c = λ ranges taken free. taken_same c.args.range (sym c.is_filled.ensures ∙ c.if-not-is_filled.true) c.args.taken.now.entries c.args.taken.now.entries ranges taken refl

pub returns-in-Ok : goal.returns-in-Ok
returns-in-Ok c =
    let fits : SFits w64 c.args.range.low = search rules in
    λ ranges taken free. taken_more c.args.range (sym c.is_filled.ensures ∙ c.if-not-is_filled.false) c.args.taken.now.entries c.insert.new.self.entries ranges taken free (c.in-Ok.ensures.entries ∙ ap (λ h. insert_entry int_cmp c.args.taken.now.entries h c.args.range.high) (to_z-of_z w64 _ fits))

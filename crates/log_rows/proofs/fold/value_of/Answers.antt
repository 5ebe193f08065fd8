use Rattle.std.proofs.Common.{SFits, w64, rules, ap, Some, ◌∙◌}
use Rattle.std.proofs.lemmas.Int.{to_z-of_z}
use Rattle.log_rows.proofs.Knowing.{long_value}
use Rattle.log_rows.proofs.fold.value_of.Goals as goal

pub returns-in_ok-share-in-Some-get : goal.returns-in_ok-share-in-Some-get
returns-in_ok-share-in-Some-get c =
    let fits : SFits w64 c.args.handle = search rules in
    let got = simp to_z-of_z at c.in-Some-get.ensures.value in
    long_value c.args.one.gone c.args.short _ _ c.if-one.false c.in_default.not-Some (ap Some c.in_ok-share-in-Some-get.ensures ∙ got)

pub returns-in-None : goal.returns-in-None
returns-in-None c =
    let fits : SFits w64 c.args.handle = search rules in
    let got = simp to_z-of_z at c.in-None.ensures.value in
    long_value c.args.one.gone c.args.short _ _ c.if-one.false c.in_default.not-Some got

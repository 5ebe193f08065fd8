use Rattle.std.proofs.Common.{◌∙◌, w64, SFits, rules}
use Rattle.std.proofs.lemmas.Int.{to_z-of_z}
use Rattle.std.specs.Int.{int_max}
use Rattle.region_state.proofs.Parting.{from_low, up_to_high}
use Rattle.region_file.proofs.taken.within.Goals as goal

pub returns-in-None : goal.returns-in-None
returns-in-None c =
    let low : SFits w64 c.args.range.low = search rules in
    c.range.ensures.between tt ∙ from_low c.args.taken.now.entries _ c.args.range (to_z-of_z w64 _ low) c.in-None.is

pub returns-in-Some : goal.returns-in-Some
returns-in-Some c =
    let low : SFits w64 c.args.range.low = search rules in
    let high : SFits w64 c.in-Some.high = search rules in
    let most : SFits w64 c.max.result = search rules in
    c.range-in-Some.ensures.between tt ∙ up_to_high c.args.taken.now.entries _ _ c.in-Some.high c.args.range (to_z-of_z w64 _ low) c.in-Some.is
    (to_z-of_z w64 _ most ∙ c.max.ensures.value ∙ (λ i. int_max (to_z-of_z w64 _ high i) (to_z-of_z w64 _ low i)))

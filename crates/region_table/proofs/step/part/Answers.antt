use Rattle.std.proofs.Common.{◌∙◌, sym, ap, w64, SFits}
use Rattle.std.proofs.lemmas.Int.{to_z-of_z}
use Rattle.region_file.specs.declared.entry.Entry.TheVariants as kept
use Rattle.region_state.specs.State.{lower_of, upper_of}
use Rattle.region_table.specs.Steps.{if_there, changed, Keeps}
use Rattle.region_table.specs.Table.{kept_in}
use Rattle.region_table.proofs.Parting.{parted}
use Rattle.region_table.proofs.step.part.Goals as goal

pub returns-in-Ok-clause-ok : goal.returns-in-Ok-clause-ok
returns-in-Ok-clause-ok c = λ q.
    let fits : SFits w64 c.args.at = c.ranges.at in
    let f : Keeps = kept_in c.args.regions.now.entries in
    let upper = c.in-Ok.ensures.upper ∙ ap (upper_of c.in-Some.region) (to_z-of_z w64 c.args.at fits) in
    let lower = c.in-Ok.ensures.lower ∙ ap (λ h. lower_of c.in-Some.region h c.args.index) (to_z-of_z w64 c.args.at fits) in
    parted f c.args.id c.args.child (kept.There c.split_off.new.self) (kept.There c.in-Ok.upper) (kept.Gone 0) _ _ _ q (c.set-in-Ok.ensures q) (c.set.ensures q) (c.in-Some.ensures.left q)
    ∙ (λ i. changed (changed f c.args.child (kept.There (upper i))) c.args.id (kept.There (lower i)) q)
    ∙ sym (ap (λ o. if_there o (λ s. changed (changed f c.args.child (kept.There (upper_of s c.args.at))) c.args.id (kept.There (lower_of s c.args.at c.args.index))) f q) c.in-Some.ensures.there)

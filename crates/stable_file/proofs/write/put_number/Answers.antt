use Rattle.std.proofs.Common.{SFits, w64, ◌∙◌, ap, subst}
use Rattle.std.specs.Int.{w128, to_be_bytes}
use Rattle.std.proofs.lemmas.Int.{to_z-of_z}
use Rattle.flash_put.specs.Appending.{Appends}
use Rattle.stable_file.specs.Building as building
use Rattle.stable_file.proofs.write.put_number.Goals as goal

pub returns : goal.returns
unfolding building.number
returns c =
    let fits : SFits w128 c.args.n = c.ranges.n in
    let is = c.bits.ensures ∙ ap building.bits (to_z-of_z w128 c.args.n fits) in
    subst (λ k. Appends c.put_u64.result c.args.into.now.items (to_be_bytes w64 k) c.put_u64.new.into.items) is c.put_u64.ensures

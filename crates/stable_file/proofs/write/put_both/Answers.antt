use Rattle.std.proofs.Common.{SFits}
use Rattle.std.specs.Int.{w128}
use Rattle.std.proofs.lemmas.Int.{to_z-of_z}
use Rattle.flash_put.proofs.Appending.{more}
use Rattle.stable_file.specs.Building as building
use Rattle.stable_file.proofs.write.put_both.Goals as goal

pub returns : goal.returns
returns c =
    let least : SFits w128 c.args.least = c.ranges.least in
    let greatest : SFits w128 c.args.greatest = c.ranges.greatest in
    let one = simp to_z-of_z at c.in_ok-put_number.ensures in
    let two = simp to_z-of_z at c.put_number-2.ensures in
    more c.put_number-2.result c.args.into.now.items (building.number c.args.least) (building.number c.args.greatest) c.put_number.new.into.items c.put_number-2.new.into.items one two

use Rattle.std.proofs.Common.{SFits, ◌++◌, ◌∷◌, [], rules, sym, subst}
use Rattle.std.specs.Int.{w128}
use Rattle.std.proofs.lemmas.Int.{to_z-of_z}
use Rattle.flash_put.specs.Appending.{Appends}
use Rattle.flash_put.proofs.Appending.{more}
use Rattle.stable_file.specs.Building as building
use Rattle.stable_file.proofs.write.put_numbers.Goals as goal

pub returns-in_ok-put_u8-in-Of : goal.returns-in_ok-put_u8-in-Of
unfolding building.numbers
returns-in_ok-put_u8-in-Of c =
    let least : SFits w128 c.in-Of.least = search rules in
    let greatest : SFits w128 c.in-Of.greatest = search rules in
    let two = simp to_z-of_z at c.put_both.ensures in
    let all = more c.put_both.result c.args.into.now.items (1 ∷ []) (building.number c.in-Of.least ++ building.number c.in-Of.greatest) c.put_u8-in-Of.new.into.items c.put_both.new.into.items c.in_ok-put_u8-in-Of.ensures two in
    subst (λ r. Appends c.put_both.result c.args.into.now.items (building.numbers r) c.put_both.new.into.items) (sym c.in-Of.is) all

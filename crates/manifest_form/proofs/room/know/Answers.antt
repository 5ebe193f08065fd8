use Rattle.std.proofs.Common.{◌≡◌, arith, rules, None}
use Rattle.std.specs.BTreeMap.{get}
use Rattle.std.specs.Ordering.{nat_cmp}
use Rattle.manifest_form.proofs.Slotting.{unknown_none, fits_known, is_none}
use Rattle.manifest_form.proofs.room.know.Goals as goal

pub returns-clause-fits : goal.returns-clause-fits
returns-clause-fits c =
    let s = c.args.slots.now in
    let unknown : get nat_cmp s.ids c.args.id ≡ None = is_none _ (search rules) in
    let none = unknown_none (get nat_cmp s.ids) s.turn c.args.id s.places.entries c.requires.fits unknown in
    fits_known (get nat_cmp s.ids) (get nat_cmp c.insert_id.new.ids) s.turn s.turn c.args.id s.places.entries (omega arith) c.insert_id.ensures.others none c.requires.fits

use Rattle.std.proofs.Common.{◌≡◌, None, rules}
use Rattle.std.specs.BTreeMap.{get}
use Rattle.std.specs.Ordering.{nat_cmp}
use Rattle.manifest_form.specs.Slots.{place_cmp}
use Rattle.manifest_form.proofs.Slotting.{made_or, fits_made_or, is_none}
use Rattle.manifest_form.proofs.room.make_slot.Goals as goal

pub returns-clause-segments : goal.returns-clause-segments
returns-clause-segments c =
    let s = c.args.slots.now in
    let none : get place_cmp s.places c.args.place ≡ None = is_none _ (search rules) in
    made_or c.insert_place.result c.args.place s.places.entries c.insert_place.new.places.entries none c.insert_place.ensures.entries c.insert_place.ensures.err

pub returns-clause-fits : goal.returns-clause-fits
returns-clause-fits c =
    let s = c.args.slots.now in
    fits_made_or c.insert_place.result (get nat_cmp s.ids) s.turn c.args.place s.places.entries c.insert_place.new.places.entries c.insert_place.ensures.entries c.insert_place.ensures.err c.requires.fits

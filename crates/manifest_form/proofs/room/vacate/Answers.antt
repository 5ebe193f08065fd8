use Rattle.std.specs.BTreeMap.{get, is_at}
use Rattle.std.specs.Ordering.{nat_cmp}
use Rattle.manifest_form.specs.Slots.{place_cmp}
use Rattle.manifest_form.proofs.Slotting.{vacated, fits_removed}
use Rattle.manifest_form.proofs.room.vacate.Goals as goal

pub returns-then-is_vacant-clause-segments : goal.returns-then-is_vacant-clause-segments
returns-then-is_vacant-clause-segments c = rw c.remove_place.ensures.entries (vacated (is_at (place_cmp c.args.place)) c.args.slots.now.places.entries (c.is_vacant.ensures c.if-is_vacant.true))

pub returns-then-is_vacant-clause-fits : goal.returns-then-is_vacant-clause-fits
returns-then-is_vacant-clause-fits c =
    let s = c.args.slots.now in
    rw c.remove_place.ensures.entries (fits_removed (get nat_cmp s.ids) s.turn (is_at (place_cmp c.args.place)) s.places.entries c.requires.fits)

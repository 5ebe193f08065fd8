use Rattle.std.proofs.Common.{◌∙◌, sym}
use Rattle.std.specs.BTreeMap.{get, is_at}
use Rattle.std.specs.Ordering.{nat_cmp}
use Rattle.manifest_form.specs.Slots.{place_cmp}
use Rattle.manifest_form.proofs.Slotting.{taken_out, fits_removed, none_there, unknown_none, without_absent, put_before, later_stay}
use Rattle.manifest_form.proofs.slots.take_out.Goals as goal

pub returns-in_default-clause-segments : goal.returns-in_default-clause-segments
returns-in_default-clause-segments c =
    let s = c.args.slots.now in
    sym (without_absent c.args.id _ (unknown_none (get nat_cmp s.ids) s.turn c.args.id s.places.entries c.requires.fits (sym c.place_of.ensures ∙ c.in_default.is)))

pub returns-then-stands-clause-segments : goal.returns-then-stands-clause-segments
returns-then-stands-clause-segments c =
    let s = c.args.slots.now in
    let known = sym c.place_of.ensures ∙ c.in-Some.is in
    rw c.remove_place.ensures.entries (taken_out (get nat_cmp s.ids) s.turn c.args.id c.in-Some.place s.places.entries c.stands.ensures.ordered c.requires.fits known (sym c.stands.ensures.stands ∙ c.if-stands.true))

pub returns-then-stands-clause-fits : goal.returns-then-stands-clause-fits
returns-then-stands-clause-fits c =
    let s = c.args.slots.now in
    rw c.remove_place.ensures.entries (fits_removed (get nat_cmp s.ids) s.turn (is_at (place_cmp c.in-Some.place)) s.places.entries c.requires.fits)

pub returns-then-stands-clause-later : goal.returns-then-stands-clause-later
returns-then-stands-clause-later c = λ q later there.
    let s = c.args.slots.now in
    let before = put_before (get nat_cmp s.ids) s.turn c.args.id c.in-Some.place s.places.entries c.requires.fits (sym c.stands.ensures.stands ∙ c.if-stands.true) in
    later_stay c.in-Some.place q s.turn (get place_cmp s.places q) _ before later (c.remove_place.ensures.others q) there

pub returns-else-stands-clause-segments : goal.returns-else-stands-clause-segments
returns-else-stands-clause-segments c =
    let s = c.args.slots.now in
    let known = sym c.place_of.ensures ∙ c.in-Some.is in
    sym (without_absent c.args.id _ (none_there (get nat_cmp s.ids) s.turn c.args.id c.in-Some.place s.places.entries c.stands.ensures.ordered c.requires.fits known (sym c.stands.ensures.stands ∙ c.if-stands.false)))

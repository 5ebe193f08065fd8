use Rattle.std.proofs.Common.{◌∙◌, sym, arith}
use Rattle.std.specs.BTreeMap.{get}
use Rattle.std.specs.Ordering.{nat_cmp}
use Rattle.manifest_form.proofs.Slotting.{none_there, fits_known}
use Rattle.manifest_form.proofs.slots.forget.Goals as goal

pub returns-then-not-stands-clause-fits : goal.returns-then-not-stands-clause-fits
returns-then-not-stands-clause-fits c =
    let s = c.args.slots.now in
    let known = sym c.place_of.ensures ∙ c.in-Some.is in
    let none = none_there (get nat_cmp s.ids) s.turn c.args.id c.in-Some.place s.places.entries c.stands.ensures.ordered c.requires.fits known (sym c.stands.ensures.stands ∙ c.if-not-stands.true) in
    fits_known (get nat_cmp s.ids) (get nat_cmp c.forget_id.new.ids) s.turn s.turn c.args.id s.places.entries (omega arith) c.forget_id.ensures none c.requires.fits

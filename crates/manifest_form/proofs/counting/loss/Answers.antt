use Rattle.std.proofs.Common.{◌∙◌, ◌+◌, ap, sym, Some}
use Rattle.std.specs.BTreeMap.{get}
use Rattle.std.specs.Ordering.{nat_cmp}
use Rattle.manifest_form.specs.States.{least_handle}
use Rattle.manifest_form.specs.Counting.{faults}
use Rattle.manifest_form.proofs.Slotting.{unknown_none, none_there, without_absent}
use Rattle.manifest_form.proofs.Faults.{loss_is, range_none, if_some}
use Rattle.manifest_form.proofs.counting.loss.Goals as goal

pub returns-in_default : goal.returns-in_default
returns-in_default c =
    let s = c.args.slots.now in
    let none = unknown_none (get nat_cmp s.ids) s.turn c.args.id s.places.entries c.requires.fits (sym c.place_of.ensures ∙ c.in_default.is) in
    sym (ap (λ ss. faults (Some least_handle) ss + 0) (without_absent c.args.id _ none))

pub returns-in_default-range_at : goal.returns-in_default-range_at
returns-in_default-range_at c =
    let s = c.args.slots.now in
    let known = sym c.place_of.ensures ∙ c.in-Some.is in
    let none = none_there (get nat_cmp s.ids) s.turn c.args.id c.in-Some.place s.places.entries c.range_at.ensures.ordered c.requires.fits known (range_none c.args.id _ (sym c.range_at.ensures.range ∙ c.in_default-range_at.is)) in
    sym (ap (λ ss. faults (Some least_handle) ss + 0) (without_absent c.args.id _ none))

pub returns : goal.returns
returns c =
    let s = c.args.slots.now in
    let known = sym c.place_of.ensures ∙ c.in-Some.is in
    let is = loss_is (get nat_cmp s.ids) s.turn c.args.id c.in-Some.place s.places.entries c.in-Some-range_at.range (Some least_handle) c.range_at.ensures.ordered c.requires.fits known (sym c.range_at.ensures.range ∙ c.in-Some-range_at.is) in
    if_some c.around.result _ _ _ _ c.around.ensures.without c.around.ensures.with is

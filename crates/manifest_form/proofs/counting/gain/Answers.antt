use Rattle.std.proofs.Common.{sym, ap, Some, ℤ, ℕ}
use Rattle.std.specs.BTreeMap.{get}
use Rattle.std.specs.Ordering.{nat_cmp}
use Rattle.manifest_form.specs.States.{least_handle}
use Rattle.manifest_form.proofs.Faults.{gain_is, if_some_other}
use Rattle.manifest_form.proofs.counting.gain.Goals as goal

pub returns : goal.returns
returns c =
    let s = c.args.slots.now in
    let place = c.next_place-place.result in
    let at = c.next_place-place.ensures in
    let is = gain_is (get nat_cmp s.ids) s.turn place c.args.segment.now s.places.entries (Some least_handle) c.len.ensures.ordered c.requires.fits (sym (ap (λ (x : ℤ × ℕ). x.0) at)) (ap (λ (x : ℤ × ℕ). x.1) at) in
    if_some_other c.around.result _ _ _ _ c.around.ensures.without c.around.ensures.with is

use Rattle.std.proofs.Common.{List, subst}
use Rattle.std.specs.Prelude.{is_some}
use Rattle.std.specs.BTreeMap.{get}
use Rattle.std.specs.Ordering.{nat_cmp}
use Rattle.manifest_form.specs.declared.state.Edit.{Edit}
use Rattle.manifest_form.specs.Slots.{place_cmp, HaveRoom}
use Rattle.manifest_form.proofs.change.make_ready.Goals as goal

pub invariant_of-result : goal.invariant_of-result
invariant_of-result c =
    let t = c.make_room.new.slots in (
      c.make_room.ensures.fits,
      subst (λ (xs : List Edit). HaveRoom (λ q. is_some (get place_cmp t.places q)) (λ i. is_some (get nat_cmp t.ids i)) xs t.turn) c.as_slice.ensures.value c.in-Ok.ensures.room,
    )

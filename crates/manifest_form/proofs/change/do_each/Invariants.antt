use Rattle.std.proofs.Common.{◌≡◌}
use Rattle.std.specs.Prelude.{is_some}
use Rattle.std.specs.BTreeMap.{get}
use Rattle.std.specs.Ordering.{nat_cmp}
use Rattle.manifest_form.specs.Slots.{place_cmp, present, AllFit, HaveRoom}
use Rattle.manifest_form.specs.States.{all_done, with_segments}
use Rattle.manifest_form.proofs.change.do_each.Given as goal

abbrev pub invariant-loop-edit : goal.invariant-loop-edit
invariant-loop-edit l = record {
  done : all_done (with_segments l.state (present l.slots.places.entries)) l.edit-iterator.rest.items ≡ all_done (with_segments l.fn.state (present l.fn.slots.places.entries)) l.fn.edits.items;
  fits : AllFit (get nat_cmp l.slots.ids) l.slots.turn l.slots.places.entries;
  room : HaveRoom (λ q. is_some (get place_cmp l.slots.places q)) (λ i. is_some (get nat_cmp l.slots.ids i)) l.edit-iterator.rest.items l.slots.turn;
}

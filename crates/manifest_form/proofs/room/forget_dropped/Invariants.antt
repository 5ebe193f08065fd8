use Rattle.std.proofs.Common.{◌≡◌}
use Rattle.std.specs.BTreeMap.{get}
use Rattle.std.specs.Ordering.{nat_cmp}
use Rattle.manifest_form.specs.Slots.{present, AllFit}
use Rattle.manifest_form.proofs.room.forget_dropped.Given as goal

abbrev pub invariant-loop-edit : goal.invariant-loop-edit
invariant-loop-edit l = record {
  segments : present l.slots.places.entries ≡ present l.fn.slots.places.entries;
  fits : AllFit (get nat_cmp l.slots.ids) l.slots.turn l.slots.places.entries;
}

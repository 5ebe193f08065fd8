use Rattle.std.proofs.Common.{◌≡◌, take}
use Rattle.delta_layer.specs.Slots.{files_in, indexes_in}
use Rattle.delta_layer.proofs.slots.shared_slots.Given as goal

abbrev pub invariant-loop-slot : goal.invariant-loop-slot
invariant-loop-slot l = record {
  files : files_in l.copy.items ≡ files_in (take l.slot-index l.slots);
  indexes : indexes_in l.copy.items ≡ indexes_in (take l.slot-index l.slots);
}

use Rattle.std.proofs.Common.{◌≡◌, map, take}
use Rattle.std.specs.Arc.{arc_value}
use Rattle.delta_layer.specs.Slots.{files_in}
use Rattle.delta_layer.proofs.slots.files_in.Given as goal

abbrev pub invariant-loop-slot : goal.invariant-loop-slot
invariant-loop-slot l = map arc_value l.files.items ≡ files_in (take l.slot-index l.slots)

use Rattle.std.proofs.Common.{◌≡◌}
use Rattle.std.specs.List.{list_all}
use Rattle.manifest_form.specs.States.{segment_below}
use Rattle.manifest_form.specs.Slots.{somes, present}
use Rattle.manifest_form.proofs.apply.segments_below.Given as goal

abbrev pub invariant-loop-slot : goal.invariant-loop-slot
invariant-loop-slot l = list_all (segment_below l.next) (somes l.slot-iterator) ≡ list_all (segment_below l.next) (present l.places.entries)

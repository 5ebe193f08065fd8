use Rattle.std.proofs.Common.{◌≡◌, ◌++◌, map}
use Rattle.manifest_form.specs.Slots.{somes, present}
use Rattle.manifest_form.proofs.slots.listed.Given as goal

abbrev pub invariant-loop-slot : goal.invariant-loop-slot
invariant-loop-slot l = map (λ segment. segment.now) l.list.items ++ somes l.slot-iterator ≡ present l.places.entries

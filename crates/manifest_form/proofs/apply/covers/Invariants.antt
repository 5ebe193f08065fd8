use Rattle.std.proofs.Common.{◌≡◌, Some}
use Rattle.manifest_form.specs.States.{cover_from}
use Rattle.manifest_form.specs.Slots.{somes, present}
use Rattle.manifest_form.proofs.apply.covers.Given as goal

abbrev pub invariant-loop-slot : goal.invariant-loop-slot
invariant-loop-slot l = cover_from l.from (somes l.slot-iterator) ≡ cover_from (Some l.least) (present l.places.entries)

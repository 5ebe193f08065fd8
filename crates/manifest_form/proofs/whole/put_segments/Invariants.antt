use Rattle.std.proofs.Common.{◌≡◌, ◌++◌, map}
use Rattle.manifest_form.specs.declared.state.StoredSegment.{StoredSegment}
use Rattle.manifest_form.specs.declared.state.Edit.TheVariants.{Segment}
use Rattle.manifest_form.specs.Slots.{somes, present}
use Rattle.manifest_form.proofs.whole.put_segments.Given as goal

abbrev pub invariant-loop-slot : goal.invariant-loop-slot
invariant-loop-slot l = l.into.items ++ map (λ (segment : StoredSegment). Segment segment) (somes l.slot-iterator) ≡ l.fn.into.items ++ map (λ (segment : StoredSegment). Segment segment) (present l.places.entries)

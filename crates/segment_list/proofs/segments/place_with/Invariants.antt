use Rattle.std.proofs.Common.{◌≡◌, ◌<◌, ℕ, false, get_or, nat_eq}
use Rattle.segment_list.specs.Slots.{Slotted}
use Rattle.segment_list.proofs.segments.place_with.Given as goal

abbrev pub invariant-loop-i : goal.invariant-loop-i
invariant-loop-i g l = (k : ℕ) (d : Slotted g.row.G.Denot) → k < l.i → nat_eq (get_or l.slots k d).id l.id ≡ false

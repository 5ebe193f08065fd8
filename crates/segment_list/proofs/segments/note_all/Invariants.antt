use Rattle.std.proofs.Common.{◌≡◌, ◌≢◌, ℕ, ◌<◌, Some, get_or}
use Rattle.std.specs.BTreeMap.{get}
use Rattle.std.specs.Ordering.{nat_cmp}
use Rattle.segment_list.specs.Slots.{Slotted}
use Rattle.segment_list.proofs.segments.note_all.Given as goal

abbrev pub invariant-loop-i : goal.invariant-loop-i
invariant-loop-i g l = record {
  noted : (k : ℕ) (d : Slotted g.row.G.Denot) → k < l.i → get nat_cmp l.lows (get_or l.slots k d).id ≡ Some (get_or l.slots k d).range.low;
  others : (q : ℕ) → ((k : ℕ) (d : Slotted g.row.G.Denot) → k < l.i → (get_or l.slots k d).id ≢ q) → get nat_cmp l.lows q ≡ get nat_cmp l.fn.lows q;
}

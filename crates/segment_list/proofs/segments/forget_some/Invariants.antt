use Rattle.std.proofs.Common.{◌≡◌, ◌≢◌, ◌≤◌, ◌<◌, ℕ, get_or}
use Rattle.std.specs.BTreeMap.{get}
use Rattle.std.specs.Ordering.{nat_cmp}
use Rattle.segment_list.specs.Slots.{Slotted}
use Rattle.segment_list.proofs.segments.forget_some.Given as goal

abbrev pub invariant-loop-i : goal.invariant-loop-i
invariant-loop-i g l = (q : ℕ) → ((k : ℕ) (d : Slotted g.row.G.Denot) → l.from ≤ k → k < l.i → (get_or l.slots k d).id ≢ q) → get nat_cmp l.lows q ≡ get nat_cmp l.fn.lows q

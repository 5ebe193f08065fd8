use Rattle.std.proofs.Common.{◌≡◌, ◌≤◌, ◌+◌, ◌++◌, drop, reverse, take}
use Rattle.segment_list.proofs.moving.move_back.Given as goal

abbrev pub invariant-loop-to : goal.invariant-loop-to
invariant-loop-to g l = record {
  least : l.place ≤ l.from.len;
  most : l.from.len ≤ l.fn.from.len;
  left : l.from.items ≡ take l.from.len l.fn.from.items;
  moved : l.to.items ≡ l.fn.to.items ++ reverse (drop l.from.len l.fn.from.items);
  count : l.to.len + l.from.len ≡ l.fn.to.len + l.fn.from.len;
  room : l.to.cap ≡ l.fn.to.cap;
}

abbrev pub decreases-loop-to : goal.decreases-loop-to
decreases-loop-to g l = l.from.len

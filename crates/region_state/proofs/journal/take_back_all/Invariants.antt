use Rattle.std.proofs.Common.{◌≡◌, vec_len}
use Rattle.region_state.specs.Undoing.{undone, CanUndo}
use Rattle.region_state.proofs.journal.take_back_all.Given as goal

abbrev pub invariant-loop-key : goal.invariant-loop-key
invariant-loop-key g l = record {
  can : CanUndo g.K.Ord.cmp l.map.entries l.puts.items;
  rest : undone g.K.Ord.cmp l.map.entries l.puts.items ≡ undone g.K.Ord.cmp l.fn.map.entries l.fn.puts.items;
}

abbrev pub decreases-loop-key : goal.decreases-loop-key
decreases-loop-key g l = vec_len l.puts

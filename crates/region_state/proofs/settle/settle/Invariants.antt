use Rattle.std.proofs.Common.{◌≡◌}
use Rattle.region_state.specs.Settling.{settled, Ready}
use Rattle.region_state.proofs.settle.settle.Given as goal

abbrev pub invariant-loop-key : goal.invariant-loop-key
invariant-loop-key g l = record {
  rest : settled g.K.Ord.cmp l.map.entries l.key-iterator ≡ settled g.K.Ord.cmp l.fn.map.entries l.fn.changes.entries;
  ready : Ready g.K.Ord.cmp l.map.entries l.key-iterator;
}

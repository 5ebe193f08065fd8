use Rattle.std.proofs.Common.{◌≡◌}
use Rattle.committed_log.proofs.Maps.{Rise}
use Rattle.region_state.specs.State.{outside}
use Rattle.region_state.proofs.union.take_out.Given as goal

abbrev pub invariant-loop-key : goal.invariant-loop-key
invariant-loop-key g l = record {
  rest : outside g.K.Ord.cmp l.key-iterator l.map.entries ≡ outside g.K.Ord.cmp l.others.entries l.fn.map.entries;
  rise : Rise g.K.Ord.cmp l.map.entries;
}

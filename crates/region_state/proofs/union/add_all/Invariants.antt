use Rattle.std.proofs.Common.{◌≡◌}
use Rattle.region_state.specs.State.{united, outside}
use Rattle.region_state.proofs.union.add_all.Given as goal

abbrev pub invariant-loop-key : goal.invariant-loop-key
invariant-loop-key g l = record {
  rest : united g.K.Ord.cmp l.map.entries l.key-iterator ≡ united g.K.Ord.cmp l.fn.map.entries l.more.entries;
  back : outside g.K.Ord.cmp l.more.entries l.map.entries ≡ l.fn.map.entries;
}

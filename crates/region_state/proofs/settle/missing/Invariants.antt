use Rattle.std.proofs.Common.{◌≡◌, []}
use Rattle.region_state.specs.Settling.{missing}
use Rattle.region_state.proofs.settle.missing.Given as goal

abbrev pub invariant-loop-key : goal.invariant-loop-key
invariant-loop-key g l = missing g.K.Ord.cmp l.map.entries l.fresh.entries l.key-iterator ≡ missing g.K.Ord.cmp l.map.entries [] l.changes.entries

use Rattle.std.proofs.Common.{◌≡◌, []}
use Rattle.std.specs.Ordering.{int_cmp}
use Rattle.region_state.specs.State.{united}
use Rattle.region_state.proofs.parts.copied.Given as goal

abbrev pub invariant-loop-handle : goal.invariant-loop-handle
invariant-loop-handle l = united int_cmp l.copy.entries l.handle-iterator ≡ united int_cmp [] l.fn.side

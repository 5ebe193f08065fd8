use Rattle.std.proofs.Common.{◌≡◌}
use Rattle.delta_index.proofs.gather.gathered.Given as goal

abbrev pub invariant-loop-entry : goal.invariant-loop-entry
invariant-loop-entry l = l.list.items ≡ l.yielded

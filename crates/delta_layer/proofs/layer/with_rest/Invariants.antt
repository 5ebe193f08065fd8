use Rattle.std.proofs.Common.{◌≡◌, ◌++◌, drop}
use Rattle.delta_layer.proofs.layer.with_rest.Given as goal

abbrev pub invariant-loop-i : goal.invariant-loop-i
invariant-loop-i l = l.all ++ drop l.i l.from ≡ l.fn.layer ++ drop l.start l.from

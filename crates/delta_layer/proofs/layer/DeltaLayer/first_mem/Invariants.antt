use Rattle.std.proofs.Common.{◌≡◌, ◌+◌, drop}
use Rattle.delta_layer.specs.Repacked.{first_mem}
use Rattle.delta_layer.proofs.layer.DeltaLayer.first_mem.Given as goal

abbrev pub invariant-loop-i : goal.invariant-loop-i
invariant-loop-i l = l.i + first_mem (drop l.i l.self) ≡ first_mem l.self

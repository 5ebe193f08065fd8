use Rattle.std.proofs.Common.{◌≡◌, ◌+◌, drop}
use Rattle.delta_layer.specs.Overlay.{count_before}
use Rattle.delta_layer.proofs.merge.end_before.Given as goal

abbrev pub invariant-loop-to : goal.invariant-loop-to
invariant-loop-to l = l.to + count_before l.version (drop l.to l.all) ≡ l.from + count_before l.version (drop l.from l.all)

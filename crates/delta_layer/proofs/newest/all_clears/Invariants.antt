use Rattle.std.proofs.Common.{◌≡◌, take}
use Rattle.delta_layer.specs.Overlay.{clears_in}
use Rattle.delta_layer.proofs.newest.all_clears.Given as goal

abbrev pub invariant-loop-i : goal.invariant-loop-i
invariant-loop-i l = l.ranges.items ≡ clears_in (take l.i l.delta)

use Rattle.std.proofs.Common.{take}
use Rattle.flash_types.specs.Asks.{AreDistinct}
use Rattle.flash_types.proofs.ask.first_repeat.Given as goal

abbrev pub invariant-loop-place : goal.invariant-loop-place
invariant-loop-place l = AreDistinct (take l.place l.regions)

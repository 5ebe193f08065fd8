use Rattle.std.proofs.Common.{◌≡◌, take}
use Rattle.generator.specs.Generated.{log_of, opening}
use Rattle.generator.proofs.generate.opened_log.Given as goal

abbrev pub invariant-loop-region : goal.invariant-loop-region
invariant-loop-region l = l.logs ≡ log_of (take l.region opening)

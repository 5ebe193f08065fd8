use Rattle.std.proofs.Common.{◌≡◌}
use Rattle.generator.specs.Generated.{log_of, begun, random}
use Rattle.generator.proofs.generate.begun_log.Given as goal

-- the log of the transactions so far, and the last random number
abbrev pub invariant-loop-i : goal.invariant-loop-i
invariant-loop-i l = (l.logs ≡ log_of (begun l.i)) × (l.x ≡ random l.i)

use Rattle.std.proofs.Common.{rules}
use Rattle.turnstile.proofs.Numbers.{ones_grow}
use Rattle.turnstile.proofs.spares.spare_below.Goals as goal

pub loop-k-preserved : goal.loop-k-preserved
loop-k-preserved c = (search rules, search rules, ones_grow c.loop-k.k c.loop-k.spare c.loop-k.invariant.2 (search rules) (search rules))

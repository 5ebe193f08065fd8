use Rattle.std.proofs.Common.{◌≡◌, ◌≤◌}
use Rattle.turnstile.specs.Numbers.{all_but_first}
use Rattle.turnstile.proofs.spares.spare_below.Given as goal

abbrev pub invariant-loop-k : goal.invariant-loop-k
invariant-loop-k l = (1 ≤ l.k) × (l.k ≤ l.fn.seats) × (l.spare ≡ all_but_first l.k)

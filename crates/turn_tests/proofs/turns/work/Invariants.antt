use Rattle.std.proofs.Common.{◌≡◌}
use Rattle.turnstile.specs.Seats.{IsIdle}
use Rattle.turn_tests.proofs.turns.work.Given as goal

abbrev pub invariant-loop : goal.invariant-loop
invariant-loop g l = IsIdle l.fn.turn.place l.seat × (l.seat.parts ≡ l.initial.seat.parts)

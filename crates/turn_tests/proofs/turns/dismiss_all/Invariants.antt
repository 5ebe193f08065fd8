use Rattle.std.proofs.Common.{◌≡◌, ◌+◌, All, vec_len}
use Rattle.turnstile.specs.Seats.{IsIdle}
use Rattle.turn_tests.proofs.turns.dismiss_all.Given as goal

abbrev pub invariant-loop-other : goal.invariant-loop-other
invariant-loop-other l = (l.seat.place ≡ l.initial.seat.place) × (l.seat.held ≡ l.initial.seat.held) × (l.seat.parts + vec_len l.team ≡ l.initial.seat.parts + vec_len l.fn.team)
    × All (λ s. IsIdle l.fn.turn.place s × (s.parts ≡ 1)) l.team.items

abbrev pub decreases-loop-other : goal.decreases-loop-other
decreases-loop-other l = vec_len l.team

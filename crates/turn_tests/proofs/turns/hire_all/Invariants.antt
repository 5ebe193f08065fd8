use Rattle.std.proofs.Common.{◌≡◌, ◌+◌, ◌≤◌, All, vec_len, vec_capacity}
use Rattle.turnstile.specs.Seats.{IsIdle}
use Rattle.turn_tests.proofs.turns.hire_all.Given as goal

abbrev pub invariant-loop : goal.invariant-loop
invariant-loop l = (l.seat.place ≡ l.initial.seat.place) × (l.seat.held ≡ l.initial.seat.held) × (l.seat.parts + vec_len l.team ≡ 16) × (vec_len l.team ≡ l.counter) × (16 ≤ vec_capacity l.team)
    × All (λ s. IsIdle l.fn.turn.place s × (s.parts ≡ 1)) l.team.items

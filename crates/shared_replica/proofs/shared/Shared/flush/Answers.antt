use Rattle.std.proofs.Common.{◌≤◌, arith}
use Rattle.shared_replica.specs.Following.{turn_on}
use Rattle.shared_replica.proofs.Seeing.{saw_grown}
use Rattle.shared_replica.proofs.shared.Shared.flush.Goals as goal

pub returns-clause-saw : goal.returns-clause-saw
returns-clause-saw g c =
    let low : c.flush-flushed.new.self.replica.core.numbers.kept_from ≤ c.take-turned.new.seat.floor = omega (arith, c.flush-flushed.ensures.kept, c.take-turned.ensures.floor.1) in
    saw_grown _ _ _ _ _ _ _ _ c.take-turned.result c.flush-flushed.new.self (λ p q r late early. turn_on late early) c.flush-flushed.ensures.follows
    c.take-turned.ensures.seat c.give.ensures c.take-turned.ensures.from_start c.take-turned.ensures.seen
    low c.take-turned.ensures.pin
    (record { value = c.take-turned.result; from_start = c.take-turned.ensures.from_start; grew = c.take-turned.ensures.seen; step = c.flush-flushed.ensures.follows; is = c.flush-flushed.ensures.is })

use Rattle.std.proofs.Common.{◌≤◌, arith}
use Rattle.shared_replica.specs.Following.{turn_on}
use Rattle.shared_replica.proofs.Seeing.{saw_grown}
use Rattle.shared_replica.proofs.shared.Shared.apply_one.Goals as goal

pub returns-clause-saw : goal.returns-clause-saw
returns-clause-saw g c =
    let low : c.apply-applied.new.self.replica.core.numbers.kept_from ≤ c.take-turned.new.seat.floor = omega (arith, c.apply-applied.ensures.kept, c.take-turned.ensures.floor.1) in
    saw_grown _ _ _ _ _ _ _ _ c.take-turned.result c.apply-applied.new.self (λ p q r late early. turn_on late early) c.apply-applied.ensures.follows
    c.take-turned.ensures.seat c.give.ensures c.take-turned.ensures.from_start c.take-turned.ensures.seen
    low c.take-turned.ensures.pin c.apply-applied.ensures.is

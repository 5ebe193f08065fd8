use Rattle.shared_replica.proofs.Seeing.{saw_pinned, saw_same}
use Rattle.shared_replica.proofs.shared.Shared.pinned_read.Goals as goal

pub returns-in-Ok-clause-saw : goal.returns-in-Ok-clause-saw
returns-in-Ok-clause-saw g c = saw_pinned _ _ _ _ _ _ _ _ c.take-turned.result _ c.take-turned.ensures.seat c.pin_same.ensures c.take-turned.ensures.from_start c.take-turned.ensures.seen
    c.take-turned.ensures.floor.1 c.take-turned.ensures.pin
    (c.in-Ok.ensures.snapshot, c.in-Ok.ensures.right)

pub returns-in-Err-clause-saw : goal.returns-in-Err-clause-saw
returns-in-Err-clause-saw g c = saw_same _ _ _ _ _ _ _ _ c.take-turned.result c.take-turned.ensures.seat c.give_same.ensures c.take-turned.ensures.from_start c.take-turned.ensures.seen
    c.take-turned.ensures.floor.1 c.take-turned.ensures.pin
    c.in-Err.ensures.cause

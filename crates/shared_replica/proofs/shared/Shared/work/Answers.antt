use Rattle.shared_replica.proofs.Seeing.{saw_pinned, saw_same}
use Rattle.shared_replica.proofs.Begun.{begun_as, begun_there, none_of, not_begun}
use Rattle.shared_replica.proofs.shared.Shared.work.Goals as goal

pub returns-in-Some-clause-saw : goal.returns-in-Some-clause-saw
returns-in-Some-clause-saw g c = saw_same _ _ _ _ _ _ _ _ c.take-turned.result c.take-turned.ensures.seat c.give_same.ensures c.take-turned.ensures.from_start c.take-turned.ensures.seen
    c.take-turned.ensures.floor.1 c.take-turned.ensures.pin
    (record { is = c.in-Some.ensures.count; rose = c.in-Some.ensures.rose })

pub returns-in-Ok-Some-clause-saw : goal.returns-in-Ok-Some-clause-saw
returns-in-Ok-Some-clause-saw g c = saw_pinned _ _ _ _ _ _ _ _ c.take-turned.result _ c.take-turned.ensures.seat c.pin_same.ensures c.take-turned.ensures.from_start c.take-turned.ensures.seen
    c.take-turned.ensures.floor.1 c.take-turned.ensures.pin (
      c.wrecked.ensures.whole (none_of c.wrecked.result c.in_default.not-Some),
      begun_there c.args.job c.state.result.now c.take-turned.result.replica.core c.state.ensures c.in-Ok-Some.field-0 c.in-Ok-Some.ensures.some c.in-Ok-Some.task c.in-Ok-Some.field-0-is,
      begun_as c.args.job c.state.result.now c.take-turned.result.replica.core c.state.ensures c.in-Ok-Some.field-0 c.in-Ok-Some.ensures.some c.in-Ok-Some.task c.in-Ok-Some.field-0-is c.in-Ok-Some.ensures.task,
    )

pub returns-in-Ok-None-clause-saw : goal.returns-in-Ok-None-clause-saw
returns-in-Ok-None-clause-saw g c = saw_same _ _ _ _ _ _ _ _ c.take-turned.result c.take-turned.ensures.seat c.give_same-in-Ok-None.ensures c.take-turned.ensures.from_start c.take-turned.ensures.seen
    c.take-turned.ensures.floor.1 c.take-turned.ensures.pin (
      c.wrecked.ensures.whole (none_of c.wrecked.result c.in_default.not-Some),
      not_begun c.args.job c.state.result.now c.take-turned.result.replica.core c.state.ensures c.in-Ok-None.field-0 c.in-Ok-None.ensures.some c.in-Ok-None.field-0-is,
    )

pub returns-in-Err-clause-saw : goal.returns-in-Err-clause-saw
returns-in-Err-clause-saw g c = saw_same _ _ _ _ _ _ _ _ c.take-turned.result c.take-turned.ensures.seat c.give_same-in-Err.ensures c.take-turned.ensures.from_start c.take-turned.ensures.seen
    c.take-turned.ensures.floor.1 c.take-turned.ensures.pin
    (c.wrecked.ensures.whole (none_of c.wrecked.result c.in_default.not-Some))

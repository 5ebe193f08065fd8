use Rattle.std.proofs.Common.{◌≡◌, subst}
use Rattle.region_table.specs.Applying.{next_ready}
use Rattle.replica_state.specs.Core.{Core, full}
use Rattle.shared_replica.proofs.Seeing.{saw_same}
use Rattle.shared_replica.proofs.shared.Shared.next.Goals as goal

pub returns-clause-saw : goal.returns-clause-saw
returns-clause-saw g c = saw_same _ _ _ _ _ _ _ _ c.take-turned.result c.take-turned.ensures.seat c.give_same.ensures c.take-turned.ensures.from_start c.take-turned.ensures.seen
    c.take-turned.ensures.floor.1 c.take-turned.ensures.pin
    (subst (λ (core : Core _). c.next_ready-found.result ≡ next_ready core.log (full core) c.args.part c.args.parts c.args.below) c.state.ensures c.next_ready-found.ensures.is)

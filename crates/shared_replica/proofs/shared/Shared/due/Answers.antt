use Rattle.std.proofs.Common.{◌≡◌, inl, inr, map, refl, subst}
use Rattle.flash_io.specs.Faults.{Rose}
use Rattle.replica_state.specs.Core.{Core}
use Rattle.segment_due.specs.Infos.{info_of}
use Rattle.segment_due.specs.Works.{due_of}
use Rattle.shared_replica.proofs.Seeing.{saw_same}
use Rattle.shared_replica.proofs.shared.Shared.due.Goals as goal

pub returns-in-Some-clause-saw : goal.returns-in-Some-clause-saw
returns-in-Some-clause-saw g c = saw_same _ _ _ _ _ _ _ _ c.take-turned.result c.take-turned.ensures.seat c.give_same.ensures c.take-turned.ensures.from_start c.take-turned.ensures.seen
    c.take-turned.ensures.floor.1 c.take-turned.ensures.pin
    (inl (record { is = refl; rose = subst (Rose c.take-turned.result.replica.store.opened_faults) c.in-Some.ensures.count c.in-Some.ensures.rose }, refl))

pub returns-in-None-clause-saw : goal.returns-in-None-clause-saw
returns-in-None-clause-saw g c = saw_same _ _ _ _ _ _ _ _ c.take-turned.result c.take-turned.ensures.seat c.give_same-in-None.ensures c.take-turned.ensures.from_start c.take-turned.ensures.seen
    c.take-turned.ensures.floor.1 c.take-turned.ensures.pin
    (inr (c.in-None.ensures.whole refl, subst (λ (core : Core _). c.due-due.result ≡ due_of core.settings (map info_of core.slots)) c.state.ensures c.due-due.ensures))

use Rattle.std.proofs.Common.{◌∙◌, ap, subst, arith}
use Rattle.std.specs.List.{AllByRecursion}
use Rattle.manifest.specs.Stores.{Beneath}
use Rattle.manifest.specs.declared.store.Manifest.{Manifest}
use Rattle.replica_store.specs.Store.{LeavesAlways}
use Rattle.segment_flush.specs.Flushing.{after_slots, flushed_slots, has_more}
use Rattle.segment_list.specs.Slots.{Slotted}
use Rattle.segment_staging.specs.Staging.{AreWritten}
use Rattle.segment_staging.proofs.Numbered.{no_fewer_slots}
use Rattle.segment_staging.proofs.Written.{beneath_more, elsewhere_beneath, slots_kept}
use Rattle.segment_staging.proofs.slots.stage_checkpoint.Goals as goal

pub stage_all-requires-clause-room : goal.stage_all-requires-clause-room
stage_all-requires-clause-room g c =
    let same = ap (λ n. after_slots has_more n c.args.list.now) c.next-from.ensures in
    let next = c.requires.next in
    let is = c.next_in-number.ensures in
    let room = c.next_in-number.type_inv in
    omega (arith, same, next, is, room)

pub stage-requires : goal.stage-requires
stage-requires g c =
    let same = ap (λ (m : Manifest). m.state.next) c.stage_all.ensures.named.manifest in
    let up = no_fewer_slots has_more c.args.store.now.manifest.state.next c.args.list.now in
    let next = c.requires.next in
    let is = c.next_in-number.ensures in
    record { fresh = omega (arith, same, up, next, is) }

pub returns-in_err-stage-clause-any_moment : goal.returns-in_err-stage-clause-any_moment
returns-in_err-stage-clause-any_moment g c =
    let d = g.D.Disk in
    let old = c.args.store.now in
    let mid = c.stage_all.new.store in
    let new = c.stage.new.self in
    let next = old.manifest.state.next in
    let up = no_fewer_slots has_more next c.args.list.now in
    let is = c.requires.next in
    let same = c.next_in-number.ensures in
    beneath_more d g.met.D.Disk.counts_now next old mid new (subst (λ n. LeavesAlways d old mid (Beneath n (d.may_leave old.disk))) c.next-from.ensures c.stage_all.ensures.any_moment) c.next_in-number.result
    (elsewhere_beneath d mid new c.next_in-number.result c.stage.ensures.any_moment) (omega (arith, up, is, same))

pub returns-clause-any_moment : goal.returns-clause-any_moment
returns-clause-any_moment g c =
    let d = g.D.Disk in
    let old = c.args.store.now in
    let mid = c.stage_all.new.store in
    let new = c.stage.new.self in
    let next = old.manifest.state.next in
    let up = no_fewer_slots has_more next c.args.list.now in
    let is = c.requires.next in
    let same = c.next_in-number.ensures in
    beneath_more d g.met.D.Disk.counts_now next old mid new (subst (λ n. LeavesAlways d old mid (Beneath n (d.may_leave old.disk))) c.next-from.ensures c.stage_all.ensures.any_moment) c.next_in-number.result
    (elsewhere_beneath d mid new c.next_in-number.result c.stage.ensures.any_moment) (omega (arith, up, is, same))

pub returns-clause-written : goal.returns-clause-written
returns-clause-written g c =
    let d = g.D.Disk in
    let mid = c.stage_all.new.store in
    let new = c.stage.new.self in
    let next = c.args.store.now.manifest.state.next in
    slots_kept d g.met.D.Disk.counts_now c.args.schema.now next next (omega arith) mid new c.next_in-number.result (elsewhere_beneath d mid new c.next_in-number.result c.stage.ensures.any_moment) has_more c.args.list.now c.requires.below (c.next_in-number.ensures ∙ c.requires.next)
    (λ image left. subst (λ n. AllByRecursion (λ (s : Slotted _). AreWritten c.args.schema.now n image s.files) (flushed_slots has_more n c.args.list.now)) c.next-from.ensures (c.in_ok-stage_all.ensures.written image left))

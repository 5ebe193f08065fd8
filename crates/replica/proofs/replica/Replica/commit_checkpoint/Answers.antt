use Rattle.std.proofs.Common.{◌≡◌, ◌∙◌, ◌+◌, ◌++◌, List, sym, ap, subst, arith}
use Rattle.std.specs.List.{AllByRecursion}
use Rattle.flash_io.specs.Crash.{Durable}
use Rattle.flash_io.specs.Image.{Image}
use Rattle.manifest.specs.Stores.{Beneath}
use Rattle.region_table.specs.Opening.{IsFileOf}
use Rattle.replica_state.specs.Changes.{checkpointed}
use Rattle.replica_state.specs.Core.{SlotSuits, full}
use Rattle.replica_state.proofs.Flushes.{no_fewer_slots}
use Rattle.replica_store.specs.Store.{IsWhole, LeavesAlways}
use Rattle.segment_flush.specs.Flushing.{after_slots, flushed_slots, has_more}
use Rattle.segment_list.specs.Slots.{Slotted}
use Rattle.segment_staging.specs.Staging.{AreBelow, AreWritten}
use Rattle.replica.specs.Learner.{IsLearner, Learner}
use Rattle.replica.specs.Steps.{checkpoint_edits, freed, out_of_use, reached, risen}
use Rattle.replica.specs.declared.retired.Retired.{Retired}
use Rattle.replica.proofs.Applying.{from_same}
use Rattle.replica.proofs.Following.{follows_itself}
use Rattle.replica.proofs.OneCheckpoint.{all_failed, all_finished, all_learner, formed_then, risen_below, same_both, same_retired}
use Rattle.replica.proofs.OneFlush.{slots_below, stage_left}
use Rattle.replica.proofs.replica.Replica.commit_checkpoint.Goals as goal

pub returns-in_err-it-clause-follows : goal.returns-in_err-it-clause-follows
returns-in_err-it-clause-follows g c = follows_itself g.D.Disk g.D.Reader.Grip.Gripped.bytes g.met.D.Disk.only_now c.args.self.now

pub returns-then-is_err-clause-follows : goal.returns-then-is_err-clause-follows
returns-then-is_err-clause-follows g c =
    let d = g.D.Disk in
    let s : Learner _ _ = record { store = c.self.inside.store; core = c.self.inside.state; retired = c.self.inside.retired.items } in
    from_same c.self.view_is (same_retired c.reserve.ensures.items (follows_itself d g.D.Reader.Grip.Gripped.bytes g.met.D.Disk.only_now s))

pub stage_checkpoint-requires-clause-suits : goal.stage_checkpoint-requires-clause-suits
stage_checkpoint-requires-clause-suits g c =
    let d = g.D.Disk in
    let s : Learner _ _ = record { store = c.self.inside.store; core = c.self.inside.state; retired = c.self.inside.retired.items } in
    let schema = c.schema-schema.ensures ∙ ap (λ l. l.schema) c.log.ensures in
    subst (λ cs. AllByRecursion (SlotSuits cs) c.segments-segments.result.now) (sym schema)
    (subst (λ (ss : List (Slotted _)). AllByRecursion (SlotSuits s.core.log.schema) ss) (sym c.segments-segments.ensures) c.told.ensures.order.slots.suit)

pub stage_checkpoint-requires-clause-below : goal.stage_checkpoint-requires-clause-below
stage_checkpoint-requires-clause-below g c =
    let d = g.D.Disk in
    let s : Learner _ _ = record { store = c.self.inside.store; core = c.self.inside.state; retired = c.self.inside.retired.items } in
    subst (λ n. AllByRecursion (λ (z : Slotted _). AreBelow n z.files) c.segments-segments.result.now) (sym c.self.invariant.names.next)
    (subst (λ (ss : List (Slotted _)). AllByRecursion (λ (z : Slotted _). AreBelow s.core.numbers.next z.files) ss) (sym c.segments-segments.ensures) (slots_below s.core.numbers.next s.core.slots c.told.ensures.order.slots.numbered))

pub returns-in_err-stage_checkpoint-clause-follows : goal.returns-in_err-stage_checkpoint-clause-follows
returns-in_err-stage_checkpoint-clause-follows g c =
    let d = g.D.Disk in
    let s : Learner _ _ = record { store = c.self.inside.store; core = c.self.inside.state; retired = c.self.inside.retired.items } in
    let whole : IsWhole d s.store = subst (λ r. IsWhole d r.store) (sym c.self.view_is) c.requires.whole in
    let t = c.stage_checkpoint.new.store in
    let next = c.self.invariant.names.next in
    let staged = subst (λ n. LeavesAlways d s.store t (Beneath n (d.may_leave s.store.disk))) next c.stage_checkpoint.ensures.any_moment in
    from_same c.self.view_is (same_retired c.reserve.ensures.items
    (stage_left d g.D.Reader.Grip.Gripped.bytes g.met.D.Disk.counts_now s c.told.ensures.order c.told.ensures.lawful c.self.invariant whole (c.told-2.ensures.kept whole) t c.stage_checkpoint.ensures.named c.stage_checkpoint.ensures.counted staged))

pub commit-requires-clause-formed : goal.commit-requires-clause-formed
commit-requires-clause-formed g c =
    let d = g.D.Disk in
    let s : Learner _ _ = record { store = c.self.inside.store; core = c.self.inside.state; retired = c.self.inside.retired.items } in
    let whole : IsWhole d s.store = subst (λ r. IsWhole d r.store) (sym c.self.view_is) c.requires.whole in
    let it = c.in_ok-it.it in
    let region : it.plan.next ≡ after_slots has_more s.core.numbers.next s.core.slots = subst (λ r. it.plan.next ≡ after_slots has_more r.core.numbers.next r.core.slots) (sym c.self.view_is) c.in_ok-it.ensures.region in
    let edits : c.as_slice.result.now ≡ checkpoint_edits (it.plan.next + 1) (reached s.core) it.plan.next s.core = c.as_slice.ensures.value ∙ subst (λ r. it.edits.items ≡ checkpoint_edits it.next it.high it.plan.next r.core) (sym c.self.view_is) c.in_ok-it.ensures.edits
    ∙ ap (λ n. checkpoint_edits n it.high it.plan.next s.core) c.in_ok-it.ensures.next
    ∙ ap (λ h. checkpoint_edits (it.plan.next + 1) h it.plan.next s.core) (subst (λ r. it.high ≡ reached r.core) (sym c.self.view_is) c.in_ok-it.ensures.high) in
    let t = c.stage_checkpoint.new.store in
    formed_then d g.D.Reader.Grip.Gripped.bytes g.met.D.Disk.counts_now s c.told.ensures.order c.told.ensures.lawful c.self.invariant whole (c.told-2.ensures.kept whole) t c.stage_checkpoint.ensures.named c.stage_checkpoint.ensures.counted c.told.ensures.differ it.plan.next region c.as_slice.result.now edits

pub returns-in_err-commit-clause-follows : goal.returns-in_err-commit-clause-follows
returns-in_err-commit-clause-follows g c =
    let d = g.D.Disk in
    let s : Learner _ _ = record { store = c.self.inside.store; core = c.self.inside.state; retired = c.self.inside.retired.items } in
    let whole : IsWhole d s.store = subst (λ r. IsWhole d r.store) (sym c.self.view_is) c.requires.whole in
    let it = c.in_ok-it.it in
    let region : it.plan.next ≡ after_slots has_more s.core.numbers.next s.core.slots = subst (λ r. it.plan.next ≡ after_slots has_more r.core.numbers.next r.core.slots) (sym c.self.view_is) c.in_ok-it.ensures.region in
    let edits : c.as_slice.result.now ≡ checkpoint_edits (it.plan.next + 1) (reached s.core) it.plan.next s.core = c.as_slice.ensures.value ∙ subst (λ r. it.edits.items ≡ checkpoint_edits it.next it.high it.plan.next r.core) (sym c.self.view_is) c.in_ok-it.ensures.edits
    ∙ ap (λ n. checkpoint_edits n it.high it.plan.next s.core) c.in_ok-it.ensures.next
    ∙ ap (λ h. checkpoint_edits (it.plan.next + 1) h it.plan.next s.core) (subst (λ r. it.high ≡ reached r.core) (sym c.self.view_is) c.in_ok-it.ensures.high) in
    let t = c.stage_checkpoint.new.store in
    let next = c.self.invariant.names.next in
    let staged = subst (λ n. LeavesAlways d s.store t (Beneath n (d.may_leave s.store.disk))) next c.stage_checkpoint.ensures.any_moment in
    let schema = c.schema-schema.ensures ∙ ap (λ l. l.schema) c.log.ensures in
    let written : (image : Image) → d.may_leave t.disk image → AllByRecursion (λ (z : Slotted _). AreWritten s.core.log.schema s.core.numbers.next image z.files) (flushed_slots has_more s.core.numbers.next s.core.slots) =
    λ image left. subst (λ cs. AllByRecursion (λ (z : Slotted _). AreWritten cs s.core.numbers.next image z.files) (flushed_slots has_more s.core.numbers.next s.core.slots)) schema
    (subst (λ n. AllByRecursion (λ (z : Slotted _). AreWritten c.schema-schema.result.now n image z.files) (flushed_slots has_more n s.core.slots)) next
    (subst (λ (ss : List (Slotted _)). AllByRecursion (λ (z : Slotted _). AreWritten c.schema-schema.result.now s.store.manifest.state.next image z.files) (flushed_slots has_more s.store.manifest.state.next ss)) c.segments-segments.ensures (c.in_ok-stage_checkpoint.ensures.written image left))) in
    let file : IsFileOf s.core.log (full s.core) it.regions.items = subst (λ r. IsFileOf r.core.log (full r.core) it.regions.items) (sym c.self.view_is) c.in_ok-it.ensures.regions in
    let durable = subst (λ bytes. Durable it.plan.next bytes (d.may_leave t.disk)) c.as_slice-regions.ensures.value c.in_ok-stage_checkpoint.ensures.regions in
    from_same c.self.view_is (same_retired c.reserve.ensures.items
    (all_failed d g.D.Reader.Grip.Gripped.bytes g.met.D.Disk.counts_now s c.told.ensures.order c.told.ensures.lawful c.self.invariant whole (c.told-2.ensures.kept whole) t c.stage_checkpoint.ensures.named c.stage_checkpoint.ensures.counted c.told.ensures.differ it.plan.next region c.as_slice.result.now edits staged written it.regions.items file durable c.commit.new.self c.commit.ensures.any_moment c.commit.ensures.opened_faults c.commit.ensures.counted c.in_err-commit.ensures.refused))

pub risen-requires : goal.risen-requires
risen-requires g c =
    let d = g.D.Disk in
    let s : Learner _ _ = record { store = c.self.inside.store; core = c.self.inside.state; retired = c.self.inside.retired.items } in
    let is = c.generation-generation.ensures in
    let less = c.told.ensures.order.numbers.generation in
    let it = c.in_ok-it.it in
    let region : it.plan.next ≡ after_slots has_more s.core.numbers.next s.core.slots = subst (λ r. it.plan.next ≡ after_slots has_more r.core.numbers.next r.core.slots) (sym c.self.view_is) c.in_ok-it.ensures.region in
    let more = no_fewer_slots has_more s.core.numbers.next s.core.slots in
    let room = c.in_ok-it.ensures.room in
    let next = c.in_ok-it.ensures.next in
    omega (arith, is, less, more, region, room, next)

pub put_checkpoint-requires-clause-numbered : goal.put_checkpoint-requires-clause-numbered
put_checkpoint-requires-clause-numbered g c =
    let d = g.D.Disk in
    let s : Learner _ _ = record { store = c.self.inside.store; core = c.self.inside.state; retired = c.self.inside.retired.items } in
    let it = c.in_ok-it.it in
    let region : it.plan.next ≡ after_slots has_more s.core.numbers.next s.core.slots = subst (λ r. it.plan.next ≡ after_slots has_more r.core.numbers.next r.core.slots) (sym c.self.view_is) c.in_ok-it.ensures.region in
    let less = risen_below s.core c.told.ensures.order it.plan.next c.freed-freed.result region in
    let is = c.risen.ensures ∙ ap (λ k. risen k c.freed-freed.result) c.generation-generation.ensures in
    let next = c.in_ok-it.ensures.next in
    omega (arith, less, is, next)

pub invariant_of-self-2 : goal.invariant_of-self-2
invariant_of-self-2 g c =
    let d = g.D.Disk in
    let s : Learner _ _ = record { store = c.self.inside.store; core = c.self.inside.state; retired = c.self.inside.retired.items } in
    let whole : IsWhole d s.store = subst (λ r. IsWhole d r.store) (sym c.self.view_is) c.requires.whole in
    let it = c.in_ok-it.it in
    let region : it.plan.next ≡ after_slots has_more s.core.numbers.next s.core.slots = subst (λ r. it.plan.next ≡ after_slots has_more r.core.numbers.next r.core.slots) (sym c.self.view_is) c.in_ok-it.ensures.region in
    let edits : c.as_slice.result.now ≡ checkpoint_edits (it.plan.next + 1) (reached s.core) it.plan.next s.core = c.as_slice.ensures.value ∙ subst (λ r. it.edits.items ≡ checkpoint_edits it.next it.high it.plan.next r.core) (sym c.self.view_is) c.in_ok-it.ensures.edits
    ∙ ap (λ n. checkpoint_edits n it.high it.plan.next s.core) c.in_ok-it.ensures.next
    ∙ ap (λ h. checkpoint_edits (it.plan.next + 1) h it.plan.next s.core) (subst (λ r. it.high ≡ reached r.core) (sym c.self.view_is) c.in_ok-it.ensures.high) in
    let t = c.stage_checkpoint.new.store in
    let high : it.high ≡ reached s.core = subst (λ r. it.high ≡ reached r.core) (sym c.self.view_is) c.in_ok-it.ensures.high in
    let freed_is : c.freed-freed.result ≡ freed s = subst (λ r. c.freed-freed.result ≡ freed r) (sym c.self.view_is) c.freed-freed.ensures in
    let generation = c.generation-generation.ensures in
    let put : c.put_checkpoint.new.self ≡ checkpointed (it.plan.next + 1) (reached s.core) (risen s.core.numbers.generation (freed s)) s.core =
    c.put_checkpoint.ensures
    ∙ ap (λ n. checkpointed n it.high c.risen.result s.core) c.in_ok-it.ensures.next
    ∙ ap (λ h. checkpointed (it.plan.next + 1) h c.risen.result s.core) high
    ∙ ap (λ k. checkpointed (it.plan.next + 1) (reached s.core) k s.core) (c.risen.ensures ∙ ap (λ k. risen k c.freed-freed.result) generation ∙ ap (risen s.core.numbers.generation) freed_is) in
    let retired : c.retire.new.retired.items ≡ s.retired ++ out_of_use s.core.numbers.generation (freed s) =
    c.retire.ensures ∙ ap (λ (l : List Retired). l ++ out_of_use c.generation-generation.result c.freed-freed.result) c.reserve.ensures.items
    ∙ ap (λ k. s.retired ++ out_of_use k c.freed-freed.result) generation ∙ ap (λ o. s.retired ++ out_of_use s.core.numbers.generation o) freed_is in
    subst (λ core. IsLearner (record { store = c.commit.new.self; core = core; retired = c.retire.new.retired.items })) (sym put)
    (subst (λ l. IsLearner (record { store = c.commit.new.self; core = checkpointed (it.plan.next + 1) (reached s.core) (risen s.core.numbers.generation (freed s)) s.core; retired = l })) (sym retired)
    (all_learner d g.D.Reader.Grip.Gripped.bytes g.met.D.Disk.counts_now s c.told.ensures.order c.told.ensures.lawful c.self.invariant whole (c.told-2.ensures.kept whole) t c.stage_checkpoint.ensures.named c.stage_checkpoint.ensures.counted c.told.ensures.differ it.plan.next region c.as_slice.result.now edits c.commit.new.self c.in_ok-commit.ensures.done))

pub returns-clause-follows : goal.returns-clause-follows
returns-clause-follows g c =
    let d = g.D.Disk in
    let s : Learner _ _ = record { store = c.self.inside.store; core = c.self.inside.state; retired = c.self.inside.retired.items } in
    let whole : IsWhole d s.store = subst (λ r. IsWhole d r.store) (sym c.self.view_is) c.requires.whole in
    let it = c.in_ok-it.it in
    let region : it.plan.next ≡ after_slots has_more s.core.numbers.next s.core.slots = subst (λ r. it.plan.next ≡ after_slots has_more r.core.numbers.next r.core.slots) (sym c.self.view_is) c.in_ok-it.ensures.region in
    let edits : c.as_slice.result.now ≡ checkpoint_edits (it.plan.next + 1) (reached s.core) it.plan.next s.core = c.as_slice.ensures.value ∙ subst (λ r. it.edits.items ≡ checkpoint_edits it.next it.high it.plan.next r.core) (sym c.self.view_is) c.in_ok-it.ensures.edits
    ∙ ap (λ n. checkpoint_edits n it.high it.plan.next s.core) c.in_ok-it.ensures.next
    ∙ ap (λ h. checkpoint_edits (it.plan.next + 1) h it.plan.next s.core) (subst (λ r. it.high ≡ reached r.core) (sym c.self.view_is) c.in_ok-it.ensures.high) in
    let t = c.stage_checkpoint.new.store in
    let next = c.self.invariant.names.next in
    let staged = subst (λ n. LeavesAlways d s.store t (Beneath n (d.may_leave s.store.disk))) next c.stage_checkpoint.ensures.any_moment in
    let schema = c.schema-schema.ensures ∙ ap (λ l. l.schema) c.log.ensures in
    let written : (image : Image) → d.may_leave t.disk image → AllByRecursion (λ (z : Slotted _). AreWritten s.core.log.schema s.core.numbers.next image z.files) (flushed_slots has_more s.core.numbers.next s.core.slots) =
    λ image left. subst (λ cs. AllByRecursion (λ (z : Slotted _). AreWritten cs s.core.numbers.next image z.files) (flushed_slots has_more s.core.numbers.next s.core.slots)) schema
    (subst (λ n. AllByRecursion (λ (z : Slotted _). AreWritten c.schema-schema.result.now n image z.files) (flushed_slots has_more n s.core.slots)) next
    (subst (λ (ss : List (Slotted _)). AllByRecursion (λ (z : Slotted _). AreWritten c.schema-schema.result.now s.store.manifest.state.next image z.files) (flushed_slots has_more s.store.manifest.state.next ss)) c.segments-segments.ensures (c.in_ok-stage_checkpoint.ensures.written image left))) in
    let file : IsFileOf s.core.log (full s.core) it.regions.items = subst (λ r. IsFileOf r.core.log (full r.core) it.regions.items) (sym c.self.view_is) c.in_ok-it.ensures.regions in
    let durable = subst (λ bytes. Durable it.plan.next bytes (d.may_leave t.disk)) c.as_slice-regions.ensures.value c.in_ok-stage_checkpoint.ensures.regions in
    let high : it.high ≡ reached s.core = subst (λ r. it.high ≡ reached r.core) (sym c.self.view_is) c.in_ok-it.ensures.high in
    let freed_is : c.freed-freed.result ≡ freed s = subst (λ r. c.freed-freed.result ≡ freed r) (sym c.self.view_is) c.freed-freed.ensures in
    let generation = c.generation-generation.ensures in
    let put : c.put_checkpoint.new.self ≡ checkpointed (it.plan.next + 1) (reached s.core) (risen s.core.numbers.generation (freed s)) s.core =
    c.put_checkpoint.ensures
    ∙ ap (λ n. checkpointed n it.high c.risen.result s.core) c.in_ok-it.ensures.next
    ∙ ap (λ h. checkpointed (it.plan.next + 1) h c.risen.result s.core) high
    ∙ ap (λ k. checkpointed (it.plan.next + 1) (reached s.core) k s.core) (c.risen.ensures ∙ ap (λ k. risen k c.freed-freed.result) generation ∙ ap (risen s.core.numbers.generation) freed_is) in
    let retired : c.retire.new.retired.items ≡ s.retired ++ out_of_use s.core.numbers.generation (freed s) =
    c.retire.ensures ∙ ap (λ (l : List Retired). l ++ out_of_use c.generation-generation.result c.freed-freed.result) c.reserve.ensures.items
    ∙ ap (λ k. s.retired ++ out_of_use k c.freed-freed.result) generation ∙ ap (λ o. s.retired ++ out_of_use s.core.numbers.generation o) freed_is in
    from_same c.self.view_is (same_both put retired
    (all_finished d g.D.Reader.Grip.Gripped.bytes g.met.D.Disk.counts_now s c.told.ensures.order c.told.ensures.lawful c.self.invariant whole (c.told-2.ensures.kept whole) t c.stage_checkpoint.ensures.named c.stage_checkpoint.ensures.counted c.told.ensures.differ it.plan.next region c.as_slice.result.now edits staged written it.regions.items file durable c.commit.new.self c.commit.ensures.any_moment c.commit.ensures.opened_faults c.commit.ensures.counted c.in_ok-commit.ensures.done))

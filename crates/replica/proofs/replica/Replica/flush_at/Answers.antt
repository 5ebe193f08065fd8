use Rattle.std.proofs.Common.{◌≡◌, ◌∙◌, ◌<◌, length, sym, ap, subst, arith, Some}
use Rattle.std.specs.Prelude.{slice_get}
use Rattle.column_block.specs.Suiting.{Suits}
use Rattle.delta_layer.specs.Files.{FilesHave, files_of}
use Rattle.flash_io.specs.Image.{Image}
use Rattle.manifest.specs.Stores.{Beneath}
use Rattle.replica_state.specs.Core.{IsNumbered, SlotSuits}
use Rattle.replica_store.specs.Store.{IsWhole, LeavesAlways}
use Rattle.segment_flush.specs.Flushing.{is_slot, plan_for}
use Rattle.replica_state.specs.Changes.{with_flushes}
use Rattle.replica.specs.Steps.{flush_edits, reached}
use Rattle.segment_flush.proofs.Planned.{all_at, index_there}
use Rattle.segment_list.specs.Flushes.{after_files, flushed_files}
use Rattle.segment_list.specs.Slots.{Slotted}
use Rattle.segment_list.specs.declared.flush.Flush.{Flush}
use Rattle.segment_staging.specs.Staging.{AreBelow, AreWritten}
use Rattle.replica.specs.Learner.{IsLearner, Learner}
use Rattle.replica.proofs.Applying.{from_same, with_same}
use Rattle.replica.proofs.Following.{follows_itself}
use Rattle.replica.proofs.OneFlush.{formed_then, one_done, one_failed, one_learner, plan_flushes, stage_left}
use Rattle.replica.proofs.replica.Replica.flush_at.Goals as goal

pub returns-in_err-plan-clause-follows : goal.returns-in_err-plan-clause-follows
returns-in_err-plan-clause-follows g c = follows_itself g.D.Disk g.D.Reader.Grip.Gripped.bytes g.met.D.Disk.only_now c.args.self.now

pub stage_layer-requires-clause-fresh : goal.stage_layer-requires-clause-fresh
stage_layer-requires-clause-fresh g c =
    let d = g.D.Disk in
    let s : Learner _ _ = record { store = c.self.inside.store; core = c.self.inside.state; retired = c.self.inside.retired.items } in
    let within : c.args.place < length s.core.slots = subst (λ r. c.args.place < length r.core.slots) (sym c.self.view_is) c.requires.within in
    let slot = c.index-slots-place.result in
    let here : slice_get s.core.slots c.args.place ≡ Some slot = index_there s.core.slots c.slots.result.now c.args.place slot (c.slots.ensures ∙ c.segments.ensures) within c.index-slots-place.is in
    let plan : c.in_ok-plan.plan.flush ≡ plan_for s.core.numbers.next slot = subst (λ r. (z : Slotted _) → slice_get r.core.slots c.args.place ≡ Some z → c.in_ok-plan.plan.flush ≡ plan_for r.core.numbers.next z) (sym c.self.view_is) c.in_ok-plan.ensures.flush slot here in
    let from : c.in_ok-plan.plan.flush.from ≡ s.core.numbers.next = ap (λ (f : Flush). f.from) plan in
    let next = c.self.invariant.names.next in
    omega (arith, from, next)

pub stage_layer-requires-clause-suits : goal.stage_layer-requires-clause-suits
stage_layer-requires-clause-suits g c =
    let d = g.D.Disk in
    let s : Learner _ _ = record { store = c.self.inside.store; core = c.self.inside.state; retired = c.self.inside.retired.items } in
    let within : c.args.place < length s.core.slots = subst (λ r. c.args.place < length r.core.slots) (sym c.self.view_is) c.requires.within in
    let slot = c.index-slots-place.result in
    let here : slice_get s.core.slots c.args.place ≡ Some slot = index_there s.core.slots c.slots.result.now c.args.place slot (c.slots.ensures ∙ c.segments.ensures) within c.index-slots-place.is in
    let schema = c.schema-schema.ensures ∙ ap (λ l. l.schema) c.log.ensures in
    let suits = all_at (SlotSuits s.core.log.schema) s.core.slots c.args.place slot here c.told.ensures.order.slots.suit in
    subst (λ cs. FilesHave (Suits cs) (files_of c.layer-layer.result.now)) (sym schema)
    (subst (λ fs. FilesHave (Suits s.core.log.schema) (files_of fs)) (sym c.layer-layer.ensures) suits.files)

pub stage_layer-requires-clause-below : goal.stage_layer-requires-clause-below
stage_layer-requires-clause-below g c =
    let d = g.D.Disk in
    let s : Learner _ _ = record { store = c.self.inside.store; core = c.self.inside.state; retired = c.self.inside.retired.items } in
    let within : c.args.place < length s.core.slots = subst (λ r. c.args.place < length r.core.slots) (sym c.self.view_is) c.requires.within in
    let slot = c.index-slots-place.result in
    let here : slice_get s.core.slots c.args.place ≡ Some slot = index_there s.core.slots c.slots.result.now c.args.place slot (c.slots.ensures ∙ c.segments.ensures) within c.index-slots-place.is in
    let numbered = all_at (IsNumbered s.core.numbers.next) s.core.slots c.args.place slot here c.told.ensures.order.slots.numbered in
    subst (λ n. AreBelow n c.layer-layer.result.now) (sym c.self.invariant.names.next)
    (subst (AreBelow s.core.numbers.next) (sym c.layer-layer.ensures) numbered.files)

pub stage_layer-requires-clause-room : goal.stage_layer-requires-clause-room
stage_layer-requires-clause-room g c =
    let d = g.D.Disk in
    let s : Learner _ _ = record { store = c.self.inside.store; core = c.self.inside.state; retired = c.self.inside.retired.items } in
    let within : c.args.place < length s.core.slots = subst (λ r. c.args.place < length r.core.slots) (sym c.self.view_is) c.requires.within in
    let slot = c.index-slots-place.result in
    let here : slice_get s.core.slots c.args.place ≡ Some slot = index_there s.core.slots c.slots.result.now c.args.place slot (c.slots.ensures ∙ c.segments.ensures) within c.index-slots-place.is in
    let plan : c.in_ok-plan.plan.flush ≡ plan_for s.core.numbers.next slot = subst (λ r. (z : Slotted _) → slice_get r.core.slots c.args.place ≡ Some z → c.in_ok-plan.plan.flush ≡ plan_for r.core.numbers.next z) (sym c.self.view_is) c.in_ok-plan.ensures.flush slot here in
    let from : c.in_ok-plan.plan.flush.from ≡ s.core.numbers.next = ap (λ (f : Flush). f.from) plan in
    let numbers : after_files c.in_ok-plan.plan.flush.from c.layer-layer.result.now ≡ c.in_ok-plan.plan.flush.next =
    ap (λ n. after_files n c.layer-layer.result.now) from ∙ ap (after_files s.core.numbers.next) c.layer-layer.ensures ∙ sym (ap (λ (f : Flush). f.next) plan) in
    let room = c.in_ok-plan.ensures.room in
    omega (arith, numbers, room)

pub returns-in_err-stage_layer-clause-follows : goal.returns-in_err-stage_layer-clause-follows
returns-in_err-stage_layer-clause-follows g c =
    let d = g.D.Disk in
    let s : Learner _ _ = record { store = c.self.inside.store; core = c.self.inside.state; retired = c.self.inside.retired.items } in
    let whole : IsWhole d s.store = subst (λ r. IsWhole d r.store) (sym c.self.view_is) c.requires.whole in
    let within : c.args.place < length s.core.slots = subst (λ r. c.args.place < length r.core.slots) (sym c.self.view_is) c.requires.within in
    let slot = c.index-slots-place.result in
    let here : slice_get s.core.slots c.args.place ≡ Some slot = index_there s.core.slots c.slots.result.now c.args.place slot (c.slots.ensures ∙ c.segments.ensures) within c.index-slots-place.is in
    let plan : c.in_ok-plan.plan.flush ≡ plan_for s.core.numbers.next slot = subst (λ r. (z : Slotted _) → slice_get r.core.slots c.args.place ≡ Some z → c.in_ok-plan.plan.flush ≡ plan_for r.core.numbers.next z) (sym c.self.view_is) c.in_ok-plan.ensures.flush slot here in
    let from : c.in_ok-plan.plan.flush.from ≡ s.core.numbers.next = ap (λ (f : Flush). f.from) plan in
    let t = c.stage_layer.new.store in
    let staged = subst (λ n. LeavesAlways d s.store t (Beneath n (d.may_leave s.store.disk))) from c.stage_layer.ensures.any_moment in
    from_same c.self.view_is (stage_left d g.D.Reader.Grip.Gripped.bytes g.met.D.Disk.counts_now s c.told.ensures.order c.told.ensures.lawful c.self.invariant whole (c.told-2.ensures.kept whole) t c.stage_layer.ensures.named c.stage_layer.ensures.counted staged)

pub commit-requires-clause-formed : goal.commit-requires-clause-formed
commit-requires-clause-formed g c =
    let d = g.D.Disk in
    let s : Learner _ _ = record { store = c.self.inside.store; core = c.self.inside.state; retired = c.self.inside.retired.items } in
    let whole : IsWhole d s.store = subst (λ r. IsWhole d r.store) (sym c.self.view_is) c.requires.whole in
    let within : c.args.place < length s.core.slots = subst (λ r. c.args.place < length r.core.slots) (sym c.self.view_is) c.requires.within in
    let slot = c.index-slots-place.result in
    let here : slice_get s.core.slots c.args.place ≡ Some slot = index_there s.core.slots c.slots.result.now c.args.place slot (c.slots.ensures ∙ c.segments.ensures) within c.index-slots-place.is in
    let plan : c.in_ok-plan.plan.flush ≡ plan_for s.core.numbers.next slot = subst (λ r. (z : Slotted _) → slice_get r.core.slots c.args.place ≡ Some z → c.in_ok-plan.plan.flush ≡ plan_for r.core.numbers.next z) (sym c.self.view_is) c.in_ok-plan.ensures.flush slot here in
    let from : c.in_ok-plan.plan.flush.from ≡ s.core.numbers.next = ap (λ (f : Flush). f.from) plan in
    let t = c.stage_layer.new.store in
    let staged = subst (λ n. LeavesAlways d s.store t (Beneath n (d.may_leave s.store.disk))) from c.stage_layer.ensures.any_moment in
    let edits : c.as_slice.result.now ≡ flush_edits (is_slot slot.id) (reached s.core) s.core = c.as_slice.ensures.value ∙ subst (λ r. (z : Slotted _) → slice_get r.core.slots c.args.place ≡ Some z → c.in_ok-plan.plan.edits.items ≡ flush_edits (is_slot z.id) (reached r.core) r.core) (sym c.self.view_is) c.in_ok-plan.ensures.edits slot here in
    formed_then d g.D.Reader.Grip.Gripped.bytes g.met.D.Disk.counts_now s c.told.ensures.order c.told.ensures.lawful c.self.invariant whole (c.told-2.ensures.kept whole) t c.stage_layer.ensures.named c.stage_layer.ensures.counted staged c.told.ensures.differ c.args.place slot here c.as_slice.result.now edits

pub returns-in_err-commit-clause-follows : goal.returns-in_err-commit-clause-follows
returns-in_err-commit-clause-follows g c =
    let d = g.D.Disk in
    let s : Learner _ _ = record { store = c.self.inside.store; core = c.self.inside.state; retired = c.self.inside.retired.items } in
    let whole : IsWhole d s.store = subst (λ r. IsWhole d r.store) (sym c.self.view_is) c.requires.whole in
    let within : c.args.place < length s.core.slots = subst (λ r. c.args.place < length r.core.slots) (sym c.self.view_is) c.requires.within in
    let slot = c.index-slots-place.result in
    let here : slice_get s.core.slots c.args.place ≡ Some slot = index_there s.core.slots c.slots.result.now c.args.place slot (c.slots.ensures ∙ c.segments.ensures) within c.index-slots-place.is in
    let plan : c.in_ok-plan.plan.flush ≡ plan_for s.core.numbers.next slot = subst (λ r. (z : Slotted _) → slice_get r.core.slots c.args.place ≡ Some z → c.in_ok-plan.plan.flush ≡ plan_for r.core.numbers.next z) (sym c.self.view_is) c.in_ok-plan.ensures.flush slot here in
    let from : c.in_ok-plan.plan.flush.from ≡ s.core.numbers.next = ap (λ (f : Flush). f.from) plan in
    let t = c.stage_layer.new.store in
    let staged = subst (λ n. LeavesAlways d s.store t (Beneath n (d.may_leave s.store.disk))) from c.stage_layer.ensures.any_moment in
    let edits : c.as_slice.result.now ≡ flush_edits (is_slot slot.id) (reached s.core) s.core = c.as_slice.ensures.value ∙ subst (λ r. (z : Slotted _) → slice_get r.core.slots c.args.place ≡ Some z → c.in_ok-plan.plan.edits.items ≡ flush_edits (is_slot z.id) (reached r.core) r.core) (sym c.self.view_is) c.in_ok-plan.ensures.edits slot here in
    let schema = c.schema-schema.ensures ∙ ap (λ l. l.schema) c.log.ensures in
    let written : (image : Image) → d.may_leave t.disk image → AreWritten s.core.log.schema s.store.manifest.state.next image (flushed_files s.core.numbers.next slot.files) =
    λ image left. subst (λ cs. AreWritten cs s.store.manifest.state.next image (flushed_files s.core.numbers.next slot.files)) schema
    (subst (λ n. AreWritten c.schema-schema.result.now s.store.manifest.state.next image (flushed_files n slot.files)) from
    (subst (λ fs. AreWritten c.schema-schema.result.now s.store.manifest.state.next image (flushed_files c.in_ok-plan.plan.flush.from fs)) c.layer-layer.ensures (c.in_ok-stage_layer.ensures.written image left))) in
    from_same c.self.view_is (one_failed d g.D.Reader.Grip.Gripped.bytes g.met.D.Disk.counts_now s c.told.ensures.order c.told.ensures.lawful c.self.invariant whole (c.told-2.ensures.kept whole) t c.stage_layer.ensures.named c.stage_layer.ensures.counted staged c.told.ensures.differ c.args.place slot here c.as_slice.result.now edits written c.commit.new.self c.commit.ensures.any_moment c.commit.ensures.opened_faults c.commit.ensures.counted c.in_err-commit.ensures.refused)

pub put_flush-requires-clause-planned : goal.put_flush-requires-clause-planned
put_flush-requires-clause-planned g c = λ z there.
    let d = g.D.Disk in
    let s : Learner _ _ = record { store = c.self.inside.store; core = c.self.inside.state; retired = c.self.inside.retired.items } in
    let plan : c.in_ok-plan.plan.flush ≡ plan_for s.core.numbers.next z = subst (λ r. (z : Slotted _) → slice_get r.core.slots c.args.place ≡ Some z → c.in_ok-plan.plan.flush ≡ plan_for r.core.numbers.next z) (sym c.self.view_is) c.in_ok-plan.ensures.flush z there in
    plan_flushes s.core.numbers.next z c.in_ok-plan.plan.flush plan

pub put_flush-requires-clause-from : goal.put_flush-requires-clause-from
put_flush-requires-clause-from g c =
    let d = g.D.Disk in
    let s : Learner _ _ = record { store = c.self.inside.store; core = c.self.inside.state; retired = c.self.inside.retired.items } in
    let within : c.args.place < length s.core.slots = subst (λ r. c.args.place < length r.core.slots) (sym c.self.view_is) c.requires.within in
    let slot = c.index-slots-place.result in
    let here : slice_get s.core.slots c.args.place ≡ Some slot = index_there s.core.slots c.slots.result.now c.args.place slot (c.slots.ensures ∙ c.segments.ensures) within c.index-slots-place.is in
    let plan : c.in_ok-plan.plan.flush ≡ plan_for s.core.numbers.next slot = subst (λ r. (z : Slotted _) → slice_get r.core.slots c.args.place ≡ Some z → c.in_ok-plan.plan.flush ≡ plan_for r.core.numbers.next z) (sym c.self.view_is) c.in_ok-plan.ensures.flush slot here in
    let from : c.in_ok-plan.plan.flush.from ≡ s.core.numbers.next = ap (λ (f : Flush). f.from) plan in
    from

pub invariant_of-self-2 : goal.invariant_of-self-2
invariant_of-self-2 g c =
    let d = g.D.Disk in
    let s : Learner _ _ = record { store = c.self.inside.store; core = c.self.inside.state; retired = c.self.inside.retired.items } in
    let whole : IsWhole d s.store = subst (λ r. IsWhole d r.store) (sym c.self.view_is) c.requires.whole in
    let within : c.args.place < length s.core.slots = subst (λ r. c.args.place < length r.core.slots) (sym c.self.view_is) c.requires.within in
    let slot = c.index-slots-place.result in
    let here : slice_get s.core.slots c.args.place ≡ Some slot = index_there s.core.slots c.slots.result.now c.args.place slot (c.slots.ensures ∙ c.segments.ensures) within c.index-slots-place.is in
    let plan : c.in_ok-plan.plan.flush ≡ plan_for s.core.numbers.next slot = subst (λ r. (z : Slotted _) → slice_get r.core.slots c.args.place ≡ Some z → c.in_ok-plan.plan.flush ≡ plan_for r.core.numbers.next z) (sym c.self.view_is) c.in_ok-plan.ensures.flush slot here in
    let from : c.in_ok-plan.plan.flush.from ≡ s.core.numbers.next = ap (λ (f : Flush). f.from) plan in
    let t = c.stage_layer.new.store in
    let staged = subst (λ n. LeavesAlways d s.store t (Beneath n (d.may_leave s.store.disk))) from c.stage_layer.ensures.any_moment in
    let edits : c.as_slice.result.now ≡ flush_edits (is_slot slot.id) (reached s.core) s.core = c.as_slice.ensures.value ∙ subst (λ r. (z : Slotted _) → slice_get r.core.slots c.args.place ≡ Some z → c.in_ok-plan.plan.edits.items ≡ flush_edits (is_slot z.id) (reached r.core) r.core) (sym c.self.view_is) c.in_ok-plan.ensures.edits slot here in
    let high : c.in_ok-plan.plan.high ≡ reached s.core = subst (λ r. c.in_ok-plan.plan.high ≡ reached r.core) (sym c.self.view_is) c.in_ok-plan.ensures.high in
    let put : c.put_flush.new.self ≡ with_flushes (is_slot slot.id) (reached s.core) s.core = c.put_flush.ensures slot here ∙ ap (λ n. with_flushes (is_slot slot.id) n s.core) high in
    subst (λ core. IsLearner (record { store = c.commit.new.self; core = core; retired = c.self.inside.retired.items })) (sym put)
    (one_learner d g.D.Reader.Grip.Gripped.bytes g.met.D.Disk.counts_now s c.told.ensures.order c.told.ensures.lawful c.self.invariant whole (c.told-2.ensures.kept whole) t c.stage_layer.ensures.named c.stage_layer.ensures.counted staged c.told.ensures.differ c.args.place slot here c.as_slice.result.now edits c.commit.new.self c.in_ok-commit.ensures.done)

pub returns-clause-follows : goal.returns-clause-follows
returns-clause-follows g c =
    let d = g.D.Disk in
    let s : Learner _ _ = record { store = c.self.inside.store; core = c.self.inside.state; retired = c.self.inside.retired.items } in
    let whole : IsWhole d s.store = subst (λ r. IsWhole d r.store) (sym c.self.view_is) c.requires.whole in
    let within : c.args.place < length s.core.slots = subst (λ r. c.args.place < length r.core.slots) (sym c.self.view_is) c.requires.within in
    let slot = c.index-slots-place.result in
    let here : slice_get s.core.slots c.args.place ≡ Some slot = index_there s.core.slots c.slots.result.now c.args.place slot (c.slots.ensures ∙ c.segments.ensures) within c.index-slots-place.is in
    let plan : c.in_ok-plan.plan.flush ≡ plan_for s.core.numbers.next slot = subst (λ r. (z : Slotted _) → slice_get r.core.slots c.args.place ≡ Some z → c.in_ok-plan.plan.flush ≡ plan_for r.core.numbers.next z) (sym c.self.view_is) c.in_ok-plan.ensures.flush slot here in
    let from : c.in_ok-plan.plan.flush.from ≡ s.core.numbers.next = ap (λ (f : Flush). f.from) plan in
    let t = c.stage_layer.new.store in
    let staged = subst (λ n. LeavesAlways d s.store t (Beneath n (d.may_leave s.store.disk))) from c.stage_layer.ensures.any_moment in
    let edits : c.as_slice.result.now ≡ flush_edits (is_slot slot.id) (reached s.core) s.core = c.as_slice.ensures.value ∙ subst (λ r. (z : Slotted _) → slice_get r.core.slots c.args.place ≡ Some z → c.in_ok-plan.plan.edits.items ≡ flush_edits (is_slot z.id) (reached r.core) r.core) (sym c.self.view_is) c.in_ok-plan.ensures.edits slot here in
    let schema = c.schema-schema.ensures ∙ ap (λ l. l.schema) c.log.ensures in
    let written : (image : Image) → d.may_leave t.disk image → AreWritten s.core.log.schema s.store.manifest.state.next image (flushed_files s.core.numbers.next slot.files) =
    λ image left. subst (λ cs. AreWritten cs s.store.manifest.state.next image (flushed_files s.core.numbers.next slot.files)) schema
    (subst (λ n. AreWritten c.schema-schema.result.now s.store.manifest.state.next image (flushed_files n slot.files)) from
    (subst (λ fs. AreWritten c.schema-schema.result.now s.store.manifest.state.next image (flushed_files c.in_ok-plan.plan.flush.from fs)) c.layer-layer.ensures (c.in_ok-stage_layer.ensures.written image left))) in
    let high : c.in_ok-plan.plan.high ≡ reached s.core = subst (λ r. c.in_ok-plan.plan.high ≡ reached r.core) (sym c.self.view_is) c.in_ok-plan.ensures.high in
    let put : c.put_flush.new.self ≡ with_flushes (is_slot slot.id) (reached s.core) s.core = c.put_flush.ensures slot here ∙ ap (λ n. with_flushes (is_slot slot.id) n s.core) high in
    from_same c.self.view_is (with_same put
    (one_done d g.D.Reader.Grip.Gripped.bytes g.met.D.Disk.counts_now s c.told.ensures.order c.told.ensures.lawful c.self.invariant whole (c.told-2.ensures.kept whole) t c.stage_layer.ensures.named c.stage_layer.ensures.counted staged c.told.ensures.differ c.args.place slot here c.as_slice.result.now edits written c.commit.new.self c.commit.ensures.any_moment c.commit.ensures.opened_faults c.commit.ensures.counted c.in_ok-commit.ensures.done))

use Rattle.std.proofs.Common.{rules, ◌≡◌, ◌∙◌, ◌<◌, ◌+◌, refl, sym, ap, subst, arith, length, take, Some}
use Rattle.std.specs.Prelude.{slice_get}
use Rattle.delta_layer.specs.Laws.{ViewSuits}
use Rattle.manifest.specs.declared.store.Manifest.{Manifest}
use Rattle.segment_flush.specs.Flushing.{after_slots, has_more, one_flushed, plans_of}
use Rattle.segment_flush.proofs.Planned.{all_at, as_many, index_there, next_after, planned_there}
use Rattle.segment_list.specs.Slots.{Slotted, view_of}
use Rattle.segment_staging.specs.Staging.{AreBelow, AreWritten}
use Rattle.segment_staging.proofs.Numbered.{fewer_slots, no_fewer_slots}
use Rattle.segment_staging.proofs.Written.{beneath_more, beneath_now, counted_on, named_on, nothing_counted, nothing_named, slot_more}
use Rattle.segment_staging.proofs.slots.stage_all.Goals as goal

pub loop-i-init : goal.loop-i-init
loop-i-init g c = record {
  named = nothing_named g.D.Disk c.args.store.now;
  moments = beneath_now g.D.Disk g.met.D.Disk.only_now c.args.store.now c.args.from;
  written = λ image left. tt;
  counted = nothing_counted g.D.Disk c.args.store.now;
}

pub bounds-flushes-i : goal.bounds-flushes-i
bounds-flushes-i g c =
    let lt : c.loop-i.i < length c.args.list.now = search rules in
    let n = ap length c.requires.planned ∙ as_many has_more c.args.from c.args.list.now in
    omega (arith, lt, n)

pub stage_planned-requires-clause-suits : goal.stage_planned-requires-clause-suits
stage_planned-requires-clause-suits g c =
    let slots = c.args.list.now in
    let lt : c.loop-i.i < length slots = search rules in
    let here : slice_get slots c.loop-i.i ≡ Some c.index-slots-i.result = index_there slots c.slots-slots.result.now c.loop-i.i c.index-slots-i.result c.slots-slots.ensures lt c.index-slots-i.is in
    all_at (λ (s : Slotted _). ViewSuits c.args.schema.now (view_of s)) slots c.loop-i.i c.index-slots-i.result here c.requires.suits

pub stage_planned-requires-clause-below : goal.stage_planned-requires-clause-below
stage_planned-requires-clause-below g c =
    let slots = c.args.list.now in
    let lt : c.loop-i.i < length slots = search rules in
    let here : slice_get slots c.loop-i.i ≡ Some c.index-slots-i.result = index_there slots c.slots-slots.result.now c.loop-i.i c.index-slots-i.result c.slots-slots.ensures lt c.index-slots-i.is in
    let same = ap (λ (m : Manifest). m.state.next) c.loop-i.invariant.named.manifest ∙ c.requires.fresh in
    subst (λ n. AreBelow n c.index-slots-i.result.files) (sym same)
    (all_at (λ (s : Slotted _). AreBelow c.args.from s.files) slots c.loop-i.i c.index-slots-i.result here c.requires.below)

pub stage_planned-requires-clause-planned : goal.stage_planned-requires-clause-planned
stage_planned-requires-clause-planned g c =
    let slots = c.args.list.now in
    let lt : c.loop-i.i < length slots = search rules in
    let here : slice_get slots c.loop-i.i ≡ Some c.index-slots-i.result = index_there slots c.slots-slots.result.now c.loop-i.i c.index-slots-i.result c.slots-slots.ensures lt c.index-slots-i.is in
    let there : slice_get (plans_of has_more c.args.from slots) c.loop-i.i ≡ Some c.index-flushes-i.result = index_there (plans_of has_more c.args.from slots) c.args.flushes.now c.loop-i.i c.index-flushes-i.result c.requires.planned (omega (arith, lt, as_many has_more c.args.from slots)) c.index-flushes-i.is in
    let same = ap (λ (m : Manifest). m.state.next) c.loop-i.invariant.named.manifest ∙ c.requires.fresh in
    let up = no_fewer_slots has_more c.args.from (take c.loop-i.i slots) in
    let few = fewer_slots has_more c.args.from (c.loop-i.i + 1) slots in
    let next = next_after has_more c.args.from slots c.loop-i.i c.index-slots-i.result here in
    let room = c.requires.room in
    record {
      from = after_slots has_more c.args.from (take c.loop-i.i slots);
      is = planned_there has_more c.args.from slots c.loop-i.i c.index-slots-i.result c.index-flushes-i.result here there;
      fresh = omega (arith, same, up);
      room = omega (arith, next, few, room);
    }

pub loop-i-preserved : goal.loop-i-preserved
loop-i-preserved g c =
    let d = g.D.Disk in
    let slots = c.args.list.now in
    let lt : c.loop-i.i < length slots = search rules in
    let here : slice_get slots c.loop-i.i ≡ Some c.index-slots-i.result = index_there slots c.slots-slots.result.now c.loop-i.i c.index-slots-i.result c.slots-slots.ensures lt c.index-slots-i.is in
    let there : slice_get (plans_of has_more c.args.from slots) c.loop-i.i ≡ Some c.index-flushes-i.result = index_there (plans_of has_more c.args.from slots) c.args.flushes.now c.loop-i.i c.index-flushes-i.result c.requires.planned (omega (arith, lt, as_many has_more c.args.from slots)) c.index-flushes-i.is in
    let planned = planned_there has_more c.args.from slots c.loop-i.i c.index-slots-i.result c.index-flushes-i.result here there in
    let number = after_slots has_more c.args.from (take c.loop-i.i slots) in
    let old = c.args.store.now in
    let mid = c.loop-i.store in
    let new = c.stage_planned.new.store in
    let so_far = c.loop-i.invariant in
    let run = c.stage_planned.ensures.any_moment number planned in
    let same = ap (λ (m : Manifest). m.state.next) so_far.named.manifest ∙ c.requires.fresh in
    record {
      named = named_on d old mid new so_far.named c.stage_planned.ensures.named;
      moments = beneath_more d g.met.D.Disk.counts_now c.args.from old mid new so_far.moments number run (no_fewer_slots has_more c.args.from (take c.loop-i.i slots));
      written = slot_more d g.met.D.Disk.counts_now c.args.schema.now c.args.from c.args.from (omega arith) mid new number run has_more slots c.loop-i.i c.index-slots-i.result here c.requires.below refl so_far.written
          (λ image left. subst (λ n. AreWritten c.args.schema.now n image (one_flushed (has_more c.index-slots-i.result) number c.index-slots-i.result).files) same (c.in_ok-stage_planned.ensures.written number planned image left));
      counted = counted_on d old mid new so_far.counted c.stage_planned.ensures.counted;
    }

pub returns-in_err-stage_planned-clause-named : goal.returns-in_err-stage_planned-clause-named
returns-in_err-stage_planned-clause-named g c = named_on g.D.Disk c.args.store.now c.loop-i.store c.stage_planned.new.store c.loop-i.invariant.named c.stage_planned.ensures.named

pub returns-in_err-stage_planned-clause-any_moment : goal.returns-in_err-stage_planned-clause-any_moment
returns-in_err-stage_planned-clause-any_moment g c =
    let slots = c.args.list.now in
    let lt : c.loop-i.i < length slots = search rules in
    let here : slice_get slots c.loop-i.i ≡ Some c.index-slots-i.result = index_there slots c.slots-slots.result.now c.loop-i.i c.index-slots-i.result c.slots-slots.ensures lt c.index-slots-i.is in
    let there : slice_get (plans_of has_more c.args.from slots) c.loop-i.i ≡ Some c.index-flushes-i.result = index_there (plans_of has_more c.args.from slots) c.args.flushes.now c.loop-i.i c.index-flushes-i.result c.requires.planned (omega (arith, lt, as_many has_more c.args.from slots)) c.index-flushes-i.is in
    let planned = planned_there has_more c.args.from slots c.loop-i.i c.index-slots-i.result c.index-flushes-i.result here there in
    let number = after_slots has_more c.args.from (take c.loop-i.i slots) in
    beneath_more g.D.Disk g.met.D.Disk.counts_now c.args.from c.args.store.now c.loop-i.store c.stage_planned.new.store c.loop-i.invariant.moments number (c.stage_planned.ensures.any_moment number planned) (no_fewer_slots has_more c.args.from (take c.loop-i.i slots))

pub returns-in_err-stage_planned-clause-counted : goal.returns-in_err-stage_planned-clause-counted
returns-in_err-stage_planned-clause-counted g c = counted_on g.D.Disk c.args.store.now c.loop-i.store c.stage_planned.new.store c.loop-i.invariant.counted c.stage_planned.ensures.counted

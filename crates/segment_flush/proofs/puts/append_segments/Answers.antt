use Rattle.std.proofs.Common.{rules, ◌≡◌, ◌∙◌, ap, ◌<◌, length, Some, arith, take, refl, subst}
use Rattle.std.specs.Prelude.{slice_get}
use Rattle.segment_flush.specs.Flushing.{after_slots, has_more, plans_of}
use Rattle.segment_flush.proofs.Planned.{as_many, index_there, next_edits, planned_there}
use Rattle.segment_flush.proofs.puts.append_segments.Goals as goal

pub bounds-flushes-i : goal.bounds-flushes-i
bounds-flushes-i g c =
    let lt : c.loop-i.i < length c.args.list.now = search rules in
    let n = ap length c.requires ∙ as_many has_more c.args.from c.args.list.now in
    omega (arith, lt, n)

pub loop-i-preserved : goal.loop-i-preserved
loop-i-preserved g c =
    let slots = c.args.list.now in
    let lt : c.loop-i.i < length slots = search rules in
    let n = ap length c.requires ∙ as_many has_more c.args.from slots in
    let here : slice_get slots c.loop-i.i ≡ Some c.index-slots-i.result = index_there slots c.slots-slots.result.now c.loop-i.i c.index-slots-i.result c.slots-slots.ensures lt c.index-slots-i.is in
    let there : slice_get (plans_of has_more c.args.from slots) c.loop-i.i ≡ Some c.index-flushes-i.result = index_there (plans_of has_more c.args.from slots) c.args.flushes.now c.loop-i.i c.index-flushes-i.result c.requires (omega (arith, lt, as_many has_more c.args.from slots)) c.index-flushes-i.is in
    next_edits has_more c.args.from slots c.loop-i.i c.index-slots-i.result c.args.edits.now.items c.loop-i.edits.items c.append_planned.new.edits.items here c.loop-i.invariant
    (c.in_ok-append_planned.ensures (after_slots has_more c.args.from (take c.loop-i.i slots)) (planned_there has_more c.args.from slots c.loop-i.i c.index-slots-i.result c.index-flushes-i.result here there))

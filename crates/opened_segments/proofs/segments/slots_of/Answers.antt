use Rattle.std.proofs.Common.{rules, ◌≡◌, ◌∙◌, ℕ, ◌<◌, true, ◌++◌, ◌∷◌, [], List, length, map, take, sym, ap, subst, arith}
use Rattle.std.specs.List.{AllByRecursion, list_all}
use Rattle.std.specs.Prelude.{Contains, ◌↔◌}
use Rattle.std.proofs.lemmas.List.{map-append}
use Rattle.std.proofs.lemmas.Result.{err_from_is_err_and}
use Rattle.flash_io.proofs.Runs.{counted_then, untouched_then}
use Rattle.flash_io.specs.Image.{Image, IsThere}
use Rattle.manifest_form.specs.States.{segment_below}
use Rattle.manifest_form.specs.declared.state.StoredSegment.{StoredSegment}
use Rattle.segment_flush.specs.Names.{stored_of}
use Rattle.replica_state.proofs.Sets.{all_one_more}
use Rattle.opened_segments.specs.Faults.{IsFaultOf, segment_faults}
use Rattle.opened_segments.specs.Opened.{IsOpenedSlot, IsSlotIn}
use Rattle.opened_segments.proofs.Slots.{faults_at, faults_more, opened_more, taken}
use Rattle.opened_segments.proofs.segments.slots_of.Goals as goal

pub slot_of-requires-clause-each : goal.slot_of-requires-clause-each
slot_of-requires-clause-each g c = λ tells file. subst (λ (image : Image). Contains c.args.list.now file ↔ IsThere image file) (sym c.loop-segment.invariant.untouched.same) (c.requires.each tells file)

pub returns-in_err-slot-clause-exact : goal.returns-in_err-slot-clause-exact
returns-in_err-slot-clause-exact g c = λ tells.
    let p = err_from_is_err_and c.from_residual.result c.from_residual.ensures.1 in
    let e = c.in_err-slot.field-0.0 in
    let x = c.segment-item.result in
    let found = subst (λ (image : Image). IsFaultOf (segment_faults c.args.own image c.args.schema.now x.now) e) c.loop-segment.invariant.untouched.same (c.in_err-slot.ensures.exact tells) in
    rw (p.1, p.2) (faults_at (λ segment. segment.now) c.args.stored.now c.loop-segment.segment-index x c.loop-segment-test.true c.segment-item.is (segment_faults c.args.own (g.D.Disk.files c.args.disk.now) c.args.schema.now) e (c.loop-segment.invariant.exact tells) found)

pub loop-segment-preserved : goal.loop-segment-preserved
loop-segment-preserved g c =
    let d = g.D.Disk in
    let old = c.args.disk.now in
    let mid = c.loop-segment.disk in
    let new = c.slot_of.new.disk in
    let same = c.loop-segment.invariant.untouched.same in
    let x = c.segment-item.result in
    let i = c.loop-segment.segment-index in
    let slot = c.in_ok-slot.slot in
    let before = c.loop-segment.slots.items in
    let more : c.push.new.self.items ≡ before ++ slot ∷ [] = search rules in
    let one = taken (λ segment. segment.now) c.args.stored.now i x c.loop-segment-test.true c.segment-item.is in
    record {
      exact = λ tells. faults_more (λ segment. segment.now) c.args.stored.now i x c.loop-segment-test.true c.segment-item.is (segment_faults c.args.own (d.files old) c.args.schema.now) (c.loop-segment.invariant.exact tells)
          (subst (λ (image : Image). segment_faults c.args.own image c.args.schema.now x.now ≡ []) same (c.in_ok-slot.ensures.exact tells));
      read = λ tells. subst (AllByRecursion (IsSlotIn g.D.Reader.Grip.Gripped.bytes c.args.own (d.files old) c.args.schema.now)) (sym more)
          (all_one_more (IsSlotIn g.D.Reader.Grip.Gripped.bytes c.args.own (d.files old) c.args.schema.now) before slot (c.loop-segment.invariant.read tells)
          (subst (λ (image : Image). IsSlotIn g.D.Reader.Grip.Gripped.bytes c.args.own image c.args.schema.now slot) same (c.in_ok-slot.ensures.read tells)));
      stored = ap (map stored_of) more ∙ map-append stored_of before (slot ∷ []) ∙ (λ k. c.loop-segment.invariant.stored k ++ c.in_ok-slot.ensures.stored k ∷ []) ∙ sym one;
      each_slot = λ next low. subst (AllByRecursion (IsOpenedSlot c.args.schema.now next)) (sym more)
          (opened_more c.args.schema.now (map (λ segment. segment.now) (take i c.args.stored.now)) x.now before slot c.loop-segment.invariant.each_slot c.in_ok-slot.ensures.slot next (subst (λ (ss : List StoredSegment). list_all (segment_below next) ss ≡ true) one low));
      untouched = untouched_then d.files d.may_leave d.moment d.left_since old mid new c.loop-segment.invariant.untouched c.in_ok-slot.ensures.untouched;
      counted = counted_then d.fault_count d.reader_fault_count d.never_fails old mid new c.loop-segment.invariant.counted c.in_ok-slot.ensures.counted;
    }

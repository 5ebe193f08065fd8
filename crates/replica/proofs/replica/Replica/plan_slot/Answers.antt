use Rattle.std.proofs.Common.{rules, ◌≡◌, ◌∙◌, ◌<◌, ◌++◌, ◌∷◌, [], length, ap, sym, subst, Some}
use Rattle.std.specs.Prelude.{slice_get}
use Rattle.std.specs.List.{filter_map}
use Rattle.manifest_form.specs.declared.state.Edit.TheVariants as edit
use Rattle.manifest_form.specs.declared.state.StoredSegment.{StoredSegment}
use Rattle.segment_flush.specs.Flushing.{is_slot}
use Rattle.segment_flush.specs.Names.{name_of}
use Rattle.segment_flush.proofs.Planned.{index_there}
use Rattle.segment_list.specs.Slots.{Slotted}
use Rattle.segment_list.specs.declared.flush.Flush.{Flush}
use Rattle.replica.specs.Steps.{flush_edits, reached}
use Rattle.replica.proofs.OneFlush.{edits_are, flush_is, one_slot}
use Rattle.replica.proofs.replica.Replica.plan_slot.Goals as goal

pub returns-clause-edits : goal.returns-clause-edits
returns-clause-edits g c =
    let core = c.self.inside.state in
    let slot = c.index-slots-place.result in
    let within : c.args.place < length core.slots = subst (λ r. c.args.place < length r.core.slots) (sym c.self.view_is) c.requires in
    let there : slice_get core.slots c.args.place ≡ Some slot = index_there core.slots c.slots.result.now c.args.place slot (c.slots.ensures ∙ c.segments-list.ensures) within c.index-slots-place.is in
    let pushed : c.push.new.self.items ≡ c.in_ok-edits.edits.items ++ edit.Segment c.in-Ok-stored.segment ∷ [] = search rules in
    subst (λ r. (s : Slotted _) → slice_get r.core.slots c.args.place ≡ Some s → c.push.new.self.items ≡ flush_edits (is_slot s.id) (reached r.core) r.core) c.self.view_is
    (λ s here.
    edits_are core c.told-2.ensures.differ c.args.place s here c.in-Ok.flush c.in-Ok-stored.segment c.reached-high.result c.log-logs.result.now c.in_ok-edits.edits.items c.push.new.self.items
    (flush_is core.numbers.next s c.in-Ok.flush (c.in-Ok.ensures.from ∙ c.next.ensures) (c.in-Ok.ensures.flush s (ap (λ (ss : _). slice_get ss c.args.place) c.segments-list.ensures ∙ here)))
    (c.in-Ok-stored.ensures ∙ ap (λ (z : Slotted _). stored_as z c.in-Ok.flush) (one_slot core.slots c.args.place slot s there here))
    c.log-logs.ensures c.reached-high.ensures c.in_ok-edits.ensures.edits pushed)
  where
    stored_as : {H : Type 0} → Slotted H → Flush → StoredSegment
    stored_as z flush = record { id = z.id; range = z.range; stable = z.stable_number; delta = filter_map name_of flush.layer }

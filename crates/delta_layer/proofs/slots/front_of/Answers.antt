use Rattle.std.proofs.Common.{rules, ◌≡◌, ◌∙◌, ap, sym, take}
use Rattle.std.proofs.lemmas.List.{take-map}
use Rattle.std.specs.Arc.{arc_value}
use Rattle.delta_layer.specs.Slots.{files_in, indexes_in}
use Rattle.delta_layer.specs.declared.slots.Slot.{Slot}
use Rattle.delta_layer.proofs.Indexes.{slots_front}
use Rattle.delta_layer.proofs.slots.front_of.Goals as goal

pub returns-clause-files : goal.returns-clause-files
returns-clause-files c =
    let front : c.split_at.result.0.now ≡ take c.args.to c.args.slots.now = search rules in
    c.in_ok-copy.ensures.files ∙ ap files_in front ∙ sym (take-map (λ (slot : Slot). arc_value slot.file) c.args.to c.args.slots.now)

pub returns-clause-slots : goal.returns-clause-slots
returns-clause-slots c =
    let front : c.split_at.result.0.now ≡ take c.args.to c.args.slots.now = search rules in
    slots_front c.args.slots.now c.in_ok-copy.copy.items c.args.to c.requires.within c.requires.slots (c.in_ok-copy.ensures.files ∙ ap files_in front) (c.in_ok-copy.ensures.indexes ∙ ap indexes_in front)

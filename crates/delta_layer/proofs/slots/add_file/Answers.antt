use Rattle.std.proofs.Common.{◌∙◌, ◌∷◌, [], ◌++◌, ap, refl}
use Rattle.std.specs.Arc.{arc_value}
use Rattle.delta_layer.specs.declared.slots.Slot.{Slot}
use Rattle.delta_layer.proofs.Indexes.{slots_push}
use Rattle.delta_layer.proofs.slots.add_file.Goals as goal

pub returns-in-Ok-push-clause-slots : goal.returns-in-Ok-push-clause-slots
returns-in-Ok-push-clause-slots c =
    let slot : Slot = record { file = c.in-Ok.file; index = c.args.index } in
    slots_push c.args.slots.now.items c.push.new.self.items slot c.args.file (arc_value c.args.index) c.requires.slots c.requires.layered c.requires.index (c.in-Ok-push.ensures.items ∙ ap (λ t. t ++ slot ∷ []) c.reserve.ensures.items) c.in-Ok.ensures.ok refl

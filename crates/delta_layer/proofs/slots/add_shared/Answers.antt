use Rattle.std.proofs.Common.{refl}
use Rattle.std.specs.Arc.{arc_value}
use Rattle.delta_layer.specs.declared.slots.Slot.{Slot}
use Rattle.delta_layer.proofs.Indexes.{slots_push}
use Rattle.delta_layer.proofs.slots.add_shared.Goals as goal

pub returns-clause-slots : goal.returns-clause-slots
returns-clause-slots c =
    let slot : Slot = record { file = c.args.file; index = c.args.index } in
    slots_push c.args.slots.now.items c.push.new.self.items slot (arc_value c.args.file) (arc_value c.args.index) c.requires.slots c.requires.layered c.requires.index c.in-Ok.ensures.items refl refl

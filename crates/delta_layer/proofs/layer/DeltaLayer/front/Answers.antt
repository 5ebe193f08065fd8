use Rattle.std.proofs.Common.{◌∙◌, ap, take}
use Rattle.delta_layer.specs.Slots.{files_in}
use Rattle.delta_layer.proofs.layer.DeltaLayer.front.Goals as goal

pub invariant_of-result : goal.invariant_of-result
invariant_of-result c = (c.in_ok-slots.ensures.slots, c.new.ensures)

pub returns : goal.returns
returns c = c.in_ok-slots.ensures.files ∙ ap (λ s. take c.args.to (files_in s)) c.as_slice.ensures.value ∙ ap (take c.args.to) c.self.view_is

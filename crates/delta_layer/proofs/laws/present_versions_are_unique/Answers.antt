use Rattle.delta_layer.proofs.Overlaid.{unique}
use Rattle.delta_layer.proofs.laws.present_versions_are_unique.Goals as goal

pub returns : goal.returns
returns c = unique

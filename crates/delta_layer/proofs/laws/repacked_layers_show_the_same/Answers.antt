use Rattle.delta_layer.proofs.Repacking.{repacked_same}
use Rattle.delta_layer.proofs.laws.repacked_layers_show_the_same.Goals as goal

pub returns : goal.returns
returns c = λ old new repacked stable h ts. repacked_same repacked stable h ts

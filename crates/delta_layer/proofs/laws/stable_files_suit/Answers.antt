use Rattle.delta_layer.proofs.Attached.{packs_suit}
use Rattle.delta_layer.proofs.laws.stable_files_suit.Goals as goal

pub returns : goal.returns
returns c = packs_suit

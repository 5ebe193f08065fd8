use Rattle.region_steps.proofs.Changing.{nothing_added}
use Rattle.region_steps.proofs.regions.only_ops_add.Goals as goal

pub returns : goal.returns
returns c = λ log p e is none. nothing_added log p e is none

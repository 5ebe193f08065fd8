use Rattle.region_steps.proofs.Changing.{prepare_has}
use Rattle.region_steps.proofs.regions.prepares_prepare.Goals as goal

pub returns : goal.returns
returns c = λ log lawful p e target s is prepares had. prepare_has log lawful p e is target prepares s had

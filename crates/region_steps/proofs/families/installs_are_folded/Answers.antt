use Rattle.region_steps.proofs.Folding.{install_is_fold}
use Rattle.region_steps.proofs.families.installs_are_folded.Goals as goal

pub returns : goal.returns
returns c = λ log lawful p e conf_ver version low high ops is installs. install_is_fold log lawful p e is conf_ver version low high ops installs

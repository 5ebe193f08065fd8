use Rattle.region_steps.proofs.Changing.{open_has}
use Rattle.region_steps.proofs.regions.opens_are_born.Goals as goal

pub returns : goal.returns
returns c = λ log lawful p e conf_ver version low high is opens. open_has log lawful p e is conf_ver version low high opens

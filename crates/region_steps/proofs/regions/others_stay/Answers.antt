use Rattle.region_steps.proofs.Changing.{other_stays}
use Rattle.region_steps.proofs.regions.others_stay.Goals as goal

pub returns : goal.returns
returns c = λ log lawful p r apart. other_stays log lawful p r apart

use Rattle.region_steps.proofs.Changing.{empty_has}
use Rattle.region_steps.proofs.regions.empties_fold_nothing.Goals as goal

pub returns : goal.returns
returns c = λ log lawful p e s is empties had. empty_has log lawful p e is empties s had

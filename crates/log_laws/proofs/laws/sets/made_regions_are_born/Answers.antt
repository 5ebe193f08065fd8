use Rattle.log_laws.proofs.Born.{still_unborn, unmade}
use Rattle.log_laws.proofs.laws.sets.made_regions_are_born.Goals as goal

pub returns-clause-unborn : goal.returns-clause-unborn
returns-clause-unborn c = λ log lawful A closed r none. still_unborn log lawful A r closed none

pub returns-clause-unmade : goal.returns-clause-unmade
returns-clause-unmade c = unmade

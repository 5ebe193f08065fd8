use Rattle.region_table.proofs.Causes.{done_is}
use Rattle.region_table.proofs.laws.done_is_applied.Goals as goal

pub returns-clause-applied : goal.returns-clause-applied
returns-clause-applied c = λ log lawful A closed p e here r last is. (done_is log lawful A closed p e here r last is).0

pub returns-clause-region : goal.returns-clause-region
returns-clause-region c = λ log lawful A closed p e here r last is. (done_is log lawful A closed p e here r last is).1

pub returns-clause-last : goal.returns-clause-last
returns-clause-last c = λ log lawful A closed p e here r last is. (done_is log lawful A closed p e here r last is).2

pub returns-clause-high : goal.returns-clause-high
returns-clause-high c = λ log lawful A closed p e here r last is. (done_is log lawful A closed p e here r last is).3

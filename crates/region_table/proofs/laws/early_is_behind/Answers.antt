use Rattle.region_table.proofs.Early.{early_is}
use Rattle.region_table.proofs.laws.early_is_behind.Goals as goal

pub returns-clause-out : goal.returns-clause-out
returns-clause-out c = λ log lawful A closed p e here r last wants is. (early_is log lawful A closed p e here r last wants is).0

pub returns-clause-last : goal.returns-clause-last
returns-clause-last c = λ log lawful A closed p e here r last wants is. (early_is log lawful A closed p e here r last wants is).1

pub returns-clause-behind : goal.returns-clause-behind
returns-clause-behind c = λ log lawful A closed p e here r last wants is. (early_is log lawful A closed p e here r last wants is).2

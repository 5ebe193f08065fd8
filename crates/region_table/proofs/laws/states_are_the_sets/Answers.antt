use Rattle.region_table.proofs.Sets.{of_table, state_is}
use Rattle.region_table.proofs.laws.states_are_the_sets.Goals as goal

pub returns : goal.returns
returns c = λ log A t is r. state_is log A t.regions (of_table log A t is) r

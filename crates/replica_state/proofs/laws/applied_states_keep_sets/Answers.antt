use Rattle.replica_state.proofs.Applies.{keeps_sets}
use Rattle.replica_state.proofs.laws.applied_states_keep_sets.Goals as goal

pub returns : goal.returns
returns g c = keeps_sets

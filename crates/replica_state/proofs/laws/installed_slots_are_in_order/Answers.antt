use Rattle.replica_state.proofs.Installing.{installed_in_order}
use Rattle.replica_state.proofs.laws.installed_slots_are_in_order.Goals as goal

pub returns : goal.returns
returns g c = λ files built install s is cover on. installed_in_order files built install s is cover on

use Rattle.good_state.proofs.Following.{core_itself, core_on}
use Rattle.good_state.proofs.laws.states_follow.Goals as goal

pub returns-clause-itself : goal.returns-clause-itself
returns-clause-itself g c = core_itself

pub returns-clause-on : goal.returns-clause-on
returns-clause-on g c = core_on

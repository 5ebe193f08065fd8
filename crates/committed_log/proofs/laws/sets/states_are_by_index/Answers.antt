use Rattle.committed_log.proofs.Answered.{applied_by_index}
use Rattle.committed_log.proofs.laws.sets.states_are_by_index.Goals as goal

pub returns : goal.returns
returns c = applied_by_index

use Rattle.committed_log.proofs.Longer.{at_same, place_same, state_same, applied_same, closed_same, lawful_front}
use Rattle.committed_log.proofs.laws.logs.longer_logs_agree.Goals as goal

pub returns-clause-stores : goal.returns-clause-stores
returns-clause-stores c = at_same

pub returns-clause-places : goal.returns-clause-places
returns-clause-places c = place_same

pub returns-clause-states : goal.returns-clause-states
returns-clause-states c = state_same

pub returns-clause-sets : goal.returns-clause-sets
returns-clause-sets c = λ log more A closed r. applied_same log more A closed.within r

pub returns-clause-closed : goal.returns-clause-closed
returns-clause-closed c = closed_same

pub returns-clause-lawful : goal.returns-clause-lawful
returns-clause-lawful c = lawful_front

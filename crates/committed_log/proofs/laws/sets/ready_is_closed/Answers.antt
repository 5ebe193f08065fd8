use Rattle.committed_log.proofs.Ready.{closed_more, ready_if_closed}
use Rattle.committed_log.proofs.laws.sets.ready_is_closed.Goals as goal

pub returns-clause-closed : goal.returns-clause-closed
returns-clause-closed c = closed_more

pub returns-clause-ready : goal.returns-clause-ready
returns-clause-ready c = ready_if_closed

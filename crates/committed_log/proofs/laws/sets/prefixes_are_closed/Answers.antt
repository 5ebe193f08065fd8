use Rattle.committed_log.proofs.Ready.{below_closed, union_closed}
use Rattle.committed_log.proofs.laws.sets.prefixes_are_closed.Goals as goal

pub returns-clause-below : goal.returns-clause-below
returns-clause-below c = below_closed

pub returns-clause-union : goal.returns-clause-union
returns-clause-union c = union_closed

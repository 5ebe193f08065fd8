use Rattle.committed_log.proofs.Closed.{next_is}
use Rattle.committed_log.proofs.Growth.{next_of_gone}
use Rattle.committed_log.proofs.laws.sets.next_is_by_index.Goals as goal

pub returns-clause-there : goal.returns-clause-there
returns-clause-there c = λ log lawful A closed r i range there index. next_is log lawful A closed r i range there index

pub returns-clause-gone : goal.returns-clause-gone
returns-clause-gone c = next_of_gone

use Rattle.committed_log.proofs.Determined.{determined}
use Rattle.committed_log.proofs.laws.sets.indexes_tell_a_set.Goals as goal

pub returns : goal.returns
returns c = determined

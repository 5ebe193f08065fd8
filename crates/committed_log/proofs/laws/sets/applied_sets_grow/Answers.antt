use Rattle.committed_log.proofs.Growth.{has_grown}
use Rattle.committed_log.proofs.laws.sets.applied_sets_grow.Goals as goal

pub returns : goal.returns
returns c = has_grown

use Rattle.committed_log.proofs.ReadLaws.{first_lock_within}
use Rattle.committed_log.proofs.laws.reads.first_locks_are_local.Goals as goal

pub returns : goal.returns
returns c = first_lock_within

use Rattle.committed_log.proofs.Growth.{has_grown}
use Rattle.replica_state.specs.Core.{full}
use Rattle.shared_replica.proofs.laws.what_was_seen_stays.Goals as goal

pub returns-clause-regions : goal.returns-clause-regions
returns-clause-regions g c = λ bound before new old lawful grown region. has_grown old.core.log lawful (full old.core) (full new.core) grown.applied region

pub returns-clause-below : goal.returns-clause-below
returns-clause-below g c = λ bound before p new old grown it. grown.below p it

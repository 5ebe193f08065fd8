use Rattle.good_replica.proofs.Added.{added_suit}
use Rattle.good_replica.proofs.laws.replicas.added_versions_suit.Goals as goal

pub returns : goal.returns
returns c = added_suit

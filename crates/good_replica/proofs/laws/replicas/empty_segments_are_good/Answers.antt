use Rattle.good_replica.proofs.Replicas.{empty_good}
use Rattle.good_replica.proofs.laws.replicas.empty_segments_are_good.Goals as goal

pub returns : goal.returns
returns c = empty_good

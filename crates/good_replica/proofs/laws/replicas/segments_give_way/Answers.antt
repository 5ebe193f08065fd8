use Rattle.good_replica.proofs.Replicas.{replaced}
use Rattle.good_replica.proofs.laws.replicas.segments_give_way.Goals as goal

pub returns : goal.returns
returns c = replaced

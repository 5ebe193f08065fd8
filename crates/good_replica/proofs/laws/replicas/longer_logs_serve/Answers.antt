use Rattle.good_replica.proofs.Longer.{all_longer}
use Rattle.good_replica.proofs.laws.replicas.longer_logs_serve.Goals as goal

pub returns : goal.returns
returns c = all_longer

use Rattle.committed_log.specs.ReadIndex.{clears_at}
use Rattle.good_replica.specs.Versions.{written}
use Rattle.good_replica.proofs.Kept.{safe_up}
use Rattle.good_replica.proofs.laws.handles.safe_point_goes_up.Goals as goal

pub returns : goal.returns
returns c = λ log h f m safe higher t. safe_up (written log h) (clears_at log h) f m safe higher t

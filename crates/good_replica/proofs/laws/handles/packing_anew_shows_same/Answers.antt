use Rattle.committed_log.specs.ReadIndex.{clears_at}
use Rattle.good_replica.specs.Versions.{written}
use Rattle.good_replica.proofs.Kept.{repack}
use Rattle.good_replica.proofs.laws.handles.packing_anew_shows_same.Goals as goal

pub returns : goal.returns
returns c = λ log h f m safe t u. repack (written log h) (clears_at log h) f m safe t u

use Rattle.committed_log.proofs.Sorted.{sorted_at}
use Rattle.committed_log.proofs.laws.logs.maps_are_sorted.Goals as goal

pub returns : goal.returns
returns c = sorted_at

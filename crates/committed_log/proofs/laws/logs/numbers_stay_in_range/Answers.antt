use Rattle.committed_log.proofs.Bounds.{below_at}
use Rattle.committed_log.proofs.laws.logs.numbers_stay_in_range.Goals as goal

pub returns : goal.returns
returns c = below_at

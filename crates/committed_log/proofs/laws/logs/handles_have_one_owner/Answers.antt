use Rattle.committed_log.proofs.Owners.{disjoint_at}
use Rattle.committed_log.proofs.laws.logs.handles_have_one_owner.Goals as goal

pub returns : goal.returns
returns c = disjoint_at

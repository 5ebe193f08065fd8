use Rattle.committed_log.proofs.Commits.{commits_rise_at}
use Rattle.committed_log.proofs.laws.reads.commits_rise.Goals as goal

pub returns : goal.returns
returns c = commits_rise_at

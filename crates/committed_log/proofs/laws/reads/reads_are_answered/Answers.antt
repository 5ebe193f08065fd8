use Rattle.committed_log.proofs.Answered.{reads_at}
use Rattle.committed_log.proofs.laws.reads.reads_are_answered.Goals as goal

pub returns : goal.returns
returns c = reads_at

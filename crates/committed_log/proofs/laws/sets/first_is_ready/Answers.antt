use Rattle.committed_log.proofs.Ready.{first_out_is_ready}
use Rattle.committed_log.proofs.laws.sets.first_is_ready.Goals as goal

pub returns : goal.returns
returns c = first_out_is_ready

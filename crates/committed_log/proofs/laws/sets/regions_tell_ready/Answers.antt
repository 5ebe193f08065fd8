use Rattle.committed_log.proofs.Waiting.{ready_by_regions}
use Rattle.committed_log.proofs.laws.sets.regions_tell_ready.Goals as goal

pub returns : goal.returns
returns c = ready_by_regions

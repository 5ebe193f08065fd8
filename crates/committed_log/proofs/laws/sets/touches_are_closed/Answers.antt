use Rattle.committed_log.proofs.Touching.{touch_closed}
use Rattle.committed_log.proofs.laws.sets.touches_are_closed.Goals as goal

pub returns : goal.returns
returns c = touch_closed

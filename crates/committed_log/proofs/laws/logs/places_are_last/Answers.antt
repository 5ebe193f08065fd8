use Rattle.committed_log.proofs.Places.{last_acting_is}
use Rattle.committed_log.proofs.laws.logs.places_are_last.Goals as goal

pub returns : goal.returns
returns c = last_acting_is

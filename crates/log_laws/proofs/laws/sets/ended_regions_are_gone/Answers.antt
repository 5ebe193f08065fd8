use Rattle.log_laws.proofs.Born.{ended, was_ended}
use Rattle.log_laws.proofs.laws.sets.ended_regions_are_gone.Goals as goal

pub returns-clause-gone : goal.returns-clause-gone
returns-clause-gone c = ended

pub returns-clause-ended : goal.returns-clause-ended
returns-clause-ended c = was_ended

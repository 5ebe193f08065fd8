use Rattle.log_laws.proofs.Onward.{between_on, wider}
use Rattle.log_laws.proofs.laws.between.replies_stay_right_between.Goals as goal

pub returns-clause-wider : goal.returns-clause-wider
returns-clause-wider c = wider

pub returns-clause-longer : goal.returns-clause-longer
returns-clause-longer c = between_on

use Rattle.good_replica.proofs.Checking.{check_tells}
use Rattle.good_replica.proofs.laws.check.check_tells_goodness.Goals as goal

pub returns-clause-good : goal.returns-clause-good
returns-clause-good c = λ log A m safe handles segments listed e. (check_tells log A m safe handles segments listed).yes e

pub returns-clause-all : goal.returns-clause-all
returns-clause-all c = λ log A m safe handles segments listed good. (check_tells log A m safe handles segments listed).holds good

use Rattle.good_replica.proofs.Commits.{still_to}
use Rattle.good_replica.proofs.Untouched.{value_still, lock_still}
use Rattle.good_replica.proofs.laws.reads.untouched_rows_stay.Goals as goal

pub returns-clause-versions : goal.returns-clause-versions
returns-clause-versions c = still_to

pub returns-clause-values : goal.returns-clause-values
returns-clause-values c = value_still

pub returns-clause-lock : goal.returns-clause-lock
returns-clause-lock c = lock_still

use Rattle.good_replica.proofs.Installing.{changed_good, split_good, merged_good}
use Rattle.good_replica.proofs.laws.replicas.installs_keep_replicas_good.Goals as goal

pub returns-clause-changed : goal.returns-clause-changed
returns-clause-changed c = changed_good

pub returns-clause-split : goal.returns-clause-split
returns-clause-split c = split_good

pub returns-clause-merged : goal.returns-clause-merged
returns-clause-merged c = merged_good

use Rattle.std.proofs.Common.{length}
use Rattle.good_replica.proofs.Closure.{next_front, none_between}
use Rattle.good_replica.proofs.Fronts.{front_other}
use Rattle.good_replica.proofs.laws.replicas.fronts_follow_touches.Goals as goal

pub returns-clause-next : goal.returns-clause-next
returns-clause-next c = next_front

pub returns-clause-between : goal.returns-clause-between
returns-clause-between c = none_between

pub returns-clause-others : goal.returns-clause-others
returns-clause-others c = λ log h A p out. front_other log h A p (length log.entries) out

use Rattle.good_replica.proofs.Replicas.{mark_up_each, safe_up_each, fewer_each}
use Rattle.good_replica.proofs.laws.replicas.marks_and_safe_points_rise.Goals as goal

pub returns-clause-mark : goal.returns-clause-mark
returns-clause-mark c = mark_up_each

pub returns-clause-safe : goal.returns-clause-safe
returns-clause-safe c = safe_up_each

pub returns-clause-fewer : goal.returns-clause-fewer
returns-clause-fewer c = fewer_each

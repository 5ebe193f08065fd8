use Rattle.good_replica.proofs.Replicas.{apply_each, apply_all}
use Rattle.good_replica.proofs.laws.replicas.applied_entries_are_absorbed.Goals as goal

pub returns-clause-each : goal.returns-clause-each
returns-clause-each c = λ log lawful A closed p free more m safe segments. apply_each log lawful A closed p free more m safe segments

pub returns-clause-all : goal.returns-clause-all
returns-clause-all c = λ log lawful A closed p free more m safe segments. apply_all log lawful A closed p free more m safe segments

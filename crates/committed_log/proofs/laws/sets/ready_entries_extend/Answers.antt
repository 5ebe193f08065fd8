use Rattle.committed_log.proofs.Ready.{applied_before, applied_after, applied_other}
use Rattle.committed_log.proofs.laws.sets.ready_entries_extend.Goals as goal

pub returns-clause-before : goal.returns-clause-before
returns-clause-before c = λ log lawful A closed p r ready acts. applied_before log A p lawful closed ready r acts

pub returns-clause-after : goal.returns-clause-after
returns-clause-after c = λ log lawful A closed p r ready acts. applied_after log A p lawful closed ready r acts

pub returns-clause-others : goal.returns-clause-others
returns-clause-others c = λ log lawful A closed p r ready out. applied_other log A p lawful closed ready r out

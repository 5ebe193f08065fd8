use Rattle.region_table.proofs.Behind.{ready_without, without_ready}
use Rattle.region_table.proofs.laws.faults_tell_ready.Goals as goal

pub returns-clause-ready : goal.returns-clause-ready
returns-clause-ready c = λ log lawful A closed p e here none. ready_without log lawful A closed p e here none

pub returns-clause-none : goal.returns-clause-none
returns-clause-none c = λ log lawful A closed p e here ready. without_ready log lawful A closed p e here ready

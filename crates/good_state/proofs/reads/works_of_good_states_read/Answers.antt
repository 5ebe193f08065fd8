use Rattle.good_state.proofs.Reading.{no_damage, work_reads}
use Rattle.good_state.proofs.reads.works_of_good_states_read.Goals as goal

pub returns-clause-views : goal.returns-clause-views
returns-clause-views g c = λ bytes job s good. work_reads bytes job s good

pub returns-clause-undamaged : goal.returns-clause-undamaged
returns-clause-undamaged g c = λ bytes job views all result fails at damaged. no_damage bytes job views all result fails at damaged

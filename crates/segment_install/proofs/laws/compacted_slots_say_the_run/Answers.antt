use Rattle.segment_install.proofs.Telling.{compacted_says}
use Rattle.segment_install.proofs.laws.compacted_slots_say_the_run.Goals as goal

pub returns : goal.returns
returns g c = λ from to file stable s ok le named. compacted_says from to file stable s ok le named

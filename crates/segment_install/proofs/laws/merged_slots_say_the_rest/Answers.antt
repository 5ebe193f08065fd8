use Rattle.segment_install.proofs.Telling.{merged_says}
use Rattle.segment_install.proofs.laws.merged_slots_say_the_rest.Goals as goal

pub returns : goal.returns
returns g c = λ n part versions s. merged_says n part versions s

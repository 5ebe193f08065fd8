use Rattle.opened_segments.proofs.Telling.{slots_there}
use Rattle.opened_segments.proofs.laws.readable_segments_are_there.Goals as goal

pub returns : goal.returns
returns g c = λ bytes own image columns slots. slots_there own image columns bytes slots

use Rattle.opened_segments.proofs.Telling.{slots_told}
use Rattle.opened_segments.proofs.laws.opened_segments_are_read.Goals as goal

pub returns : goal.returns
returns g c = λ bytes own image columns slots segments. slots_told own image columns bytes slots segments

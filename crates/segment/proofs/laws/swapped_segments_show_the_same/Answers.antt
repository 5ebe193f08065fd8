use Rattle.segment.proofs.Present.{swapped}
use Rattle.segment.proofs.laws.swapped_segments_show_the_same.Goals as goal

pub returns : goal.returns
returns c = swapped

use Rattle.segment_split.proofs.Cut.{halves}
use Rattle.segment_split.proofs.halves.halves_part.Goals as goal

pub returns : goal.returns
returns c = halves

use Rattle.good_examples.proofs.Computed.{segments_stay_good}
use Rattle.good_examples.proofs.runs.segments_stay_good.Goals as goal

pub returns : goal.returns
returns c = segments_stay_good

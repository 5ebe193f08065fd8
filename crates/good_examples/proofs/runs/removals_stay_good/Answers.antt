use Rattle.good_examples.proofs.Computed.{removals_stay_good}
use Rattle.good_examples.proofs.runs.removals_stay_good.Goals as goal

pub returns : goal.returns
returns c = removals_stay_good

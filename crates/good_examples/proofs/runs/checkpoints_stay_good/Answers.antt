use Rattle.good_examples.proofs.Computed.{checkpoints_stay_good}
use Rattle.good_examples.proofs.runs.checkpoints_stay_good.Goals as goal

pub returns : goal.returns
returns c = checkpoints_stay_good

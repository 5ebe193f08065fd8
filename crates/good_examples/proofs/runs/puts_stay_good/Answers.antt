use Rattle.good_examples.proofs.Computed.{puts_stay_good}
use Rattle.good_examples.proofs.runs.puts_stay_good.Goals as goal

pub returns : goal.returns
returns c = puts_stay_good

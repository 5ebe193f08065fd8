use Rattle.prefix_examples.proofs.Computed.{cuts}
use Rattle.prefix_examples.proofs.cut_applies_are_good.Goals as goal

pub returns : goal.returns
returns c = cuts

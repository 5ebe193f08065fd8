use Rattle.prefix_examples.proofs.Computed.{sets}
use Rattle.prefix_examples.proofs.flushes_need_sets_that_grow.Goals as goal

pub returns : goal.returns
returns c = sets

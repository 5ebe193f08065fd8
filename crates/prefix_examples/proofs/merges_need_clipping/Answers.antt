use Rattle.prefix_examples.proofs.Computed.{clips}
use Rattle.prefix_examples.proofs.merges_need_clipping.Goals as goal

pub returns : goal.returns
returns c = clips

use Rattle.good_examples.proofs.LeftOut.{merges_need_clipping}
use Rattle.good_examples.proofs.weakened.merges_need_clipping.Goals as goal

pub returns : goal.returns
returns c = merges_need_clipping

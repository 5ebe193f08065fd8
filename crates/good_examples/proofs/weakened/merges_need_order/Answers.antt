use Rattle.good_examples.proofs.LeftOut.{merges_need_order}
use Rattle.good_examples.proofs.weakened.merges_need_order.Goals as goal

pub returns : goal.returns
returns c = merges_need_order

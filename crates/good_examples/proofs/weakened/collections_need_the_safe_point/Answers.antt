use Rattle.good_examples.proofs.LeftOut.{collections_need_the_safe_point}
use Rattle.good_examples.proofs.weakened.collections_need_the_safe_point.Goals as goal

pub returns : goal.returns
returns c = collections_need_the_safe_point

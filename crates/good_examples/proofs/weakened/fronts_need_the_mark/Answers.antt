use Rattle.good_examples.proofs.LeftOut.{fronts_need_the_mark}
use Rattle.good_examples.proofs.weakened.fronts_need_the_mark.Goals as goal

pub returns : goal.returns
returns c = fronts_need_the_mark

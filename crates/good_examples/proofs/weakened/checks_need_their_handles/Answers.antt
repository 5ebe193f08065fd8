use Rattle.good_examples.proofs.LeftOut.{checks_need_their_handles}
use Rattle.good_examples.proofs.weakened.checks_need_their_handles.Goals as goal

pub returns : goal.returns
returns c = checks_need_their_handles

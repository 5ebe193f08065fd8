use Rattle.good_replica.proofs.Commits.{history}
use Rattle.good_replica.proofs.Kept.{mark_up}
use Rattle.good_replica.proofs.laws.handles.mark_goes_up.Goals as goal

pub returns : goal.returns
returns c = λ log lawful h f m n safe t. mark_up (history log lawful h) f m n safe t

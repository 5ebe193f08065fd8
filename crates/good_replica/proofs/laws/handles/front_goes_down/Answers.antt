use Rattle.good_replica.proofs.Commits.{history}
use Rattle.good_replica.proofs.Kept.{front_down}
use Rattle.good_replica.proofs.laws.handles.front_goes_down.Goals as goal

pub returns : goal.returns
returns c = λ log lawful h k f m safe t low high good. front_down (history log lawful h) k f m safe t low high good

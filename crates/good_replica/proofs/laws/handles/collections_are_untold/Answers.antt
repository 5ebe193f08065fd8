use Rattle.good_replica.proofs.Collect.{collect, collect_there}
use Rattle.good_replica.proofs.Commits.{history}
use Rattle.good_replica.proofs.laws.handles.collections_are_untold.Goals as goal

pub returns-clause-good : goal.returns-clause-good
returns-clause-good c = λ log lawful h f m safe at stable new taken rest low is good. collect (history log lawful h) f m safe at stable new taken rest low is good

pub returns-clause-by_order : goal.returns-clause-by_order
returns-clause-by_order c = λ log lawful h f safe at stable new taken rest low is real kept ordered. collect_there (history log lawful h) f safe at stable new taken rest low is real kept ordered

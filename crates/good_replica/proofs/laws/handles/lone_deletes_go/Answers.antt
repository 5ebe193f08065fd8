use Rattle.good_replica.proofs.Collect.{lone_delete}
use Rattle.good_replica.proofs.Commits.{history}
use Rattle.good_replica.proofs.laws.handles.lone_deletes_go.Goals as goal

pub returns : goal.returns
returns c = λ log lawful h f m safe stable new taken rest ts v there gone low none out others good. lone_delete (history log lawful h) f m safe stable new taken rest ts v there gone low none out others good

use Rattle.good_replica.proofs.Settled.{shows_one}
use Rattle.good_replica.proofs.laws.reads.versions_show_one_row.Goals as goal

pub returns : goal.returns
returns c = shows_one

use Rattle.good_replica.proofs.Answering.{settled_shows}
use Rattle.good_replica.proofs.laws.reads.settled_regions_show_rows.Goals as goal

pub returns : goal.returns
returns c = λ log lawful A closed r i m safe ts range there index all h t held above good. settled_shows log lawful A closed r i m safe ts range there index all h t held above good

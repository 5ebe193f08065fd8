use Rattle.prefix_laws.proofs.Replica.{opening}
use Rattle.prefix_laws.proofs.laws.entries.openings_have_one_count.Goals as goal

pub returns : goal.returns
returns c = opening

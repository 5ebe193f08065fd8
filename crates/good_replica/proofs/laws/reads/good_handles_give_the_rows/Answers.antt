use Rattle.good_replica.proofs.Scanned.{shown_is}
use Rattle.good_replica.proofs.laws.reads.good_handles_give_the_rows.Goals as goal

pub returns : goal.returns
returns c = shown_is

use Rattle.log_laws.proofs.Granted.{cut_settled}
use Rattle.log_laws.proofs.laws.reads.cuts_are_settled.Goals as goal

pub returns : goal.returns
returns c = cut_settled

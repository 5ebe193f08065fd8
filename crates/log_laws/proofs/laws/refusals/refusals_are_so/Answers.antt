use Rattle.log_laws.proofs.Refused.{refusal_so}
use Rattle.log_laws.proofs.laws.refusals.refusals_are_so.Goals as goal

pub returns : goal.returns
returns c = refusal_so

use Rattle.good_examples.proofs.Computed.{wrong_replicas_are_refused}
use Rattle.good_examples.proofs.runs.wrong_replicas_are_refused.Goals as goal

pub returns : goal.returns
returns c = wrong_replicas_are_refused

use Rattle.log_laws.proofs.Digests.{chain_on}
use Rattle.log_laws.proofs.laws.chains.chains_go_on.Goals as goal

pub returns : goal.returns
returns c = chain_on

use Rattle.log_laws.proofs.Prefix.{prefix_is}
use Rattle.log_laws.proofs.laws.sets.prefixes_have_the_regions.Goals as goal

pub returns : goal.returns
returns c = prefix_is

use Rattle.stable_file.proofs.TailAgain.{footers_again}
use Rattle.stable_file.proofs.laws.built_footers_are_read_again.Goals as goal

pub returns : goal.returns
returns c = footers_again

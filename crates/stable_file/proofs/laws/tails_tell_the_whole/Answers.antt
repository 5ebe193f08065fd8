use Rattle.stable_file.proofs.Tails.{tail_same}
use Rattle.stable_file.proofs.laws.tails_tell_the_whole.Goals as goal

pub returns : goal.returns
returns c = tail_same

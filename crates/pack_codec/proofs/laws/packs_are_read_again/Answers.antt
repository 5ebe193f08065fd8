use Rattle.pack_codec.proofs.PackAgain.{packs_again}
use Rattle.pack_codec.proofs.laws.packs_are_read_again.Goals as goal

pub returns : goal.returns
returns c = packs_again

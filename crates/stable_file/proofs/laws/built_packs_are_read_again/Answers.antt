use Rattle.stable_file.proofs.CutsAgain.{packs_have}
use Rattle.stable_file.proofs.laws.built_packs_are_read_again.Goals as goal

pub returns : goal.returns
returns c = packs_have

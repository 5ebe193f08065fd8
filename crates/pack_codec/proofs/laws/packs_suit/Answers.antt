use Rattle.pack_codec.proofs.Suiting.{pack_suits}
use Rattle.pack_codec.proofs.laws.packs_suit.Goals as goal

pub returns : goal.returns
returns c = pack_suits

use Rattle.pack_codec.proofs.SpelledPack.{pack_spelled}
use Rattle.pack_codec.proofs.laws.packs_have_one_spelling.Goals as goal

pub returns : goal.returns
returns c = pack_spelled

use Rattle.kv_codec.proofs.Agree.{keys_found}
use Rattle.kv_codec.proofs.laws.keys_are_found.Goals as goal

pub returns : goal.returns
returns c = keys_found

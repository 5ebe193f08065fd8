use Rattle.kv_codec.proofs.Agree.{keys_in_order}
use Rattle.kv_codec.proofs.laws.keys_are_in_order.Goals as goal

pub returns : goal.returns
returns c = keys_in_order

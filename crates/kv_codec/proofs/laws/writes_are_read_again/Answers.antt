use Rattle.kv_codec.proofs.Agree.{writes_again}
use Rattle.kv_codec.proofs.laws.writes_are_read_again.Goals as goal

pub returns : goal.returns
returns c = writes_again

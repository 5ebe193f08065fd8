use Rattle.kv_codec.proofs.Agree.{locks_again}
use Rattle.kv_codec.proofs.laws.locks_are_read_again.Goals as goal

pub returns : goal.returns
returns c = locks_again

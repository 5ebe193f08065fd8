use Rattle.log_codec.proofs.Agree.{headers_again}
use Rattle.log_codec.proofs.laws.headers_are_read_again.Goals as goal

pub returns : goal.returns
returns c = headers_again

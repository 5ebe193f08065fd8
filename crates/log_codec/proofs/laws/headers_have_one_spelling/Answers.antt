use Rattle.log_codec.proofs.Agree.{headers_spelled}
use Rattle.log_codec.proofs.laws.headers_have_one_spelling.Goals as goal

pub returns : goal.returns
returns c = headers_spelled

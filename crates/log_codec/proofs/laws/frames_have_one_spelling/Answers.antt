use Rattle.log_codec.proofs.Agree.{frames_spelled}
use Rattle.log_codec.proofs.laws.frames_have_one_spelling.Goals as goal

pub returns : goal.returns
returns c = frames_spelled

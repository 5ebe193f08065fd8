use Rattle.log_codec.proofs.Agree.{frames_again}
use Rattle.log_codec.proofs.laws.frames_are_read_again.Goals as goal

pub returns : goal.returns
returns c = frames_again

use Rattle.row_codec.proofs.ReadsBack.{reads_back}
use Rattle.row_codec.proofs.write.reads_back.Goals as goal

pub returns : goal.returns
returns c = reads_back

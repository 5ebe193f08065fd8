use Rattle.good_replica.proofs.Keeping.{block_collected}
use Rattle.good_replica.proofs.laws.files.kept_blocks_are_collected.Goals as goal

pub returns : goal.returns
returns c = λ safe versions rise h. block_collected h safe versions rise

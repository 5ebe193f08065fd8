use Rattle.row_store.proofs.OneRegion.{reads_wait}
use Rattle.row_store.proofs.examples.reads_wait.Goals as goal

pub returns : goal.returns
returns c = reads_wait

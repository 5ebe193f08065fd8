use Rattle.row_store.proofs.Sets.{merges_wait}
use Rattle.row_store.proofs.examples.merges_wait.Goals as goal

pub returns : goal.returns
returns c = merges_wait

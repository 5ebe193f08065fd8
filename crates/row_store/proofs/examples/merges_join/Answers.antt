use Rattle.row_store.proofs.ManyRegions.{merges_join}
use Rattle.row_store.proofs.examples.merges_join.Goals as goal

pub returns : goal.returns
returns c = merges_join

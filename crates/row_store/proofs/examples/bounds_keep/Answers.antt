use Rattle.row_store.proofs.OneRegion.{bounds_keep}
use Rattle.row_store.proofs.examples.bounds_keep.Goals as goal

pub returns : goal.returns
returns c = bounds_keep

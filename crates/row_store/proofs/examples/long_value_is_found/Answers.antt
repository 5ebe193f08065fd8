use Rattle.row_store.proofs.OneRegion.{long_value_is_found}
use Rattle.row_store.proofs.examples.long_value_is_found.Goals as goal

pub returns : goal.returns
returns c = long_value_is_found

use Rattle.row_store.proofs.OneRegion.{strange_rows_are_refused}
use Rattle.row_store.proofs.examples.strange_rows_are_refused.Goals as goal

pub returns : goal.returns
returns c = strange_rows_are_refused

use Rattle.row_store.proofs.OneRegion.{extremes_are_in_order}
use Rattle.row_store.proofs.examples.extremes_are_in_order.Goals as goal

pub returns : goal.returns
returns c = extremes_are_in_order

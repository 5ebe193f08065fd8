use Rattle.row_store.proofs.OneRegion.{deletes_hide}
use Rattle.row_store.proofs.examples.deletes_hide.Goals as goal

pub returns : goal.returns
returns c = deletes_hide

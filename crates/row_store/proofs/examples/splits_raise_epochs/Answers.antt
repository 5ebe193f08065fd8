use Rattle.row_store.proofs.ManyRegions.{splits_raise_epochs}
use Rattle.row_store.proofs.examples.splits_raise_epochs.Goals as goal

pub returns : goal.returns
returns c = splits_raise_epochs

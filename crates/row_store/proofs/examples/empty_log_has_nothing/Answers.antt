use Rattle.row_store.proofs.Records.{empty_log_has_nothing}
use Rattle.row_store.proofs.examples.empty_log_has_nothing.Goals as goal

pub returns : goal.returns
returns c = empty_log_has_nothing

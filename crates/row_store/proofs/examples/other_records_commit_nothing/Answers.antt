use Rattle.row_store.proofs.Records.{other_records_commit_nothing}
use Rattle.row_store.proofs.examples.other_records_commit_nothing.Goals as goal

pub returns : goal.returns
returns c = other_records_commit_nothing

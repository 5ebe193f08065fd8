use Rattle.row_store.proofs.Indexes.{read_indexes_miss_nothing}
use Rattle.row_store.proofs.examples.read_indexes_miss_nothing.Goals as goal

pub returns : goal.returns
returns c = read_indexes_miss_nothing

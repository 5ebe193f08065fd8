use Rattle.row_store.proofs.OneFile.{file_is_read}
use Rattle.row_store.proofs.examples.file_is_read.Goals as goal

pub returns : goal.returns
returns c = file_is_read

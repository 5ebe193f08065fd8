use Rattle.column_file.proofs.TinyAgain.{tiny_again}
use Rattle.column_file.proofs.laws.tiny_files_are_read_again.Goals as goal

pub returns : goal.returns
returns c = tiny_again

use Rattle.column_file.proofs.TinySuiting.{tiny_suits}
use Rattle.column_file.proofs.laws.tiny_files_suit.Goals as goal

pub returns : goal.returns
returns c = tiny_suits

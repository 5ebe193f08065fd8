use Rattle.column_file.proofs.TinySpelled.{tiny_spelled}
use Rattle.column_file.proofs.laws.tiny_files_have_one_spelling.Goals as goal

pub returns : goal.returns
returns c = tiny_spelled

use Rattle.stable_laws.proofs.Whole.{equal_files}
use Rattle.stable_laws.proofs.equal_reads_are_of_equal_files.Goals as goal

pub returns : goal.returns
returns c = equal_files c.files_have_one_spelling.ensures

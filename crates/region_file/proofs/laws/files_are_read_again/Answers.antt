use Rattle.region_file.proofs.FileAgain.{file_again}
use Rattle.region_file.proofs.laws.files_are_read_again.Goals as goal

pub returns : goal.returns
returns c = λ entries fits apart. file_again entries fits apart

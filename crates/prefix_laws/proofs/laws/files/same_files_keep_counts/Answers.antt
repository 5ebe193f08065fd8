use Rattle.prefix_laws.proofs.Replica.{say_same}
use Rattle.prefix_laws.proofs.laws.files.same_files_keep_counts.Goals as goal

pub returns : goal.returns
returns c = λ log S m safe from last. say_same log S m safe from last

use Rattle.prefix_laws.proofs.Replica.{first_files}
use Rattle.prefix_laws.proofs.laws.counts.named_files_give_way.Goals as goal

pub returns : goal.returns
returns c = λ log lawful S m safe from last. first_files log lawful S m safe from last

use Rattle.prefix_laws.proofs.Replica.{all_named}
use Rattle.prefix_laws.proofs.laws.counts.flushes_keep_counts.Goals as goal

pub returns : goal.returns
returns c = λ log lawful S m safe from last. all_named log lawful S m safe from last

use Rattle.prefix_laws.proofs.Replica.{checkpoint}
use Rattle.prefix_laws.proofs.laws.entries.checkpoints_keep_counts.Goals as goal

pub returns : goal.returns
returns c = checkpoint

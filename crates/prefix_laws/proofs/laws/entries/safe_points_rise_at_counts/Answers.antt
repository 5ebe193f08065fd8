use Rattle.prefix_laws.proofs.Replica.{safe_up}
use Rattle.prefix_laws.proofs.laws.entries.safe_points_rise_at_counts.Goals as goal

pub returns : goal.returns
returns c = λ log S m safe from last. safe_up log S m safe from last

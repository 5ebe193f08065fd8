use Rattle.prefix_laws.proofs.Replica.{mark_up}
use Rattle.prefix_laws.proofs.laws.entries.marks_rise_at_counts.Goals as goal

pub returns : goal.returns
returns c = λ log lawful S m safe from last. mark_up log lawful S m safe from last

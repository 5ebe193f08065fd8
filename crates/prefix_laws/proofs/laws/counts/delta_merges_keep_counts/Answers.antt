use Rattle.prefix_laws.proofs.Counts.{delta_merge}
use Rattle.prefix_laws.proofs.laws.counts.delta_merges_keep_counts.Goals as goal

pub returns : goal.returns
returns c = λ log lawful S m safe from last steps range stable new taken rest at at_safe view. delta_merge log lawful S m safe from last steps range stable new taken rest at at_safe view.begins view.ends view.by view.later

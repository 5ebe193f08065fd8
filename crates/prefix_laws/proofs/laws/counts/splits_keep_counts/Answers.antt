use Rattle.prefix_laws.proofs.Counts.{split}
use Rattle.prefix_laws.proofs.laws.counts.splits_keep_counts.Goals as goal

pub returns : goal.returns
returns c = λ log lawful S m safe from last steps range half stable new taken rest at view. split log lawful S m safe from last steps range half stable new taken rest at view.begins view.ends view.by view.later

use Rattle.segment_laws.proofs.Installing.{delta_merge_installs, delta_merge_installs_once}
use Rattle.segment_laws.proofs.laws.installs.delta_merges_install.Goals as goal

pub returns-clause-counts : goal.returns-clause-counts
returns-clause-counts c = λ log lawful S m safe from last steps before after. delta_merge_installs log lawful S m safe from last steps before after

pub returns-clause-once : goal.returns-clause-once
returns-clause-once c = λ log lawful A m safe k before after. delta_merge_installs_once log lawful A m safe k before after

use Rattle.segment_laws.proofs.Installing.{merge_installs, merge_installs_once}
use Rattle.segment_laws.proofs.laws.installs.merges_install.Goals as goal

pub returns-clause-counts : goal.returns-clause-counts
returns-clause-counts c = λ log lawful S m safe from last steps before after. merge_installs log lawful S m safe from last steps before after

pub returns-clause-once : goal.returns-clause-once
returns-clause-once c = λ log lawful A m safe k before after. merge_installs_once log lawful A m safe k before after

use Rattle.prefix_laws.proofs.Same.{all_same, from_trails, turned}
use Rattle.prefix_laws.proofs.laws.files.same_trails_are_good.Goals as goal

pub returns-clause-lists : goal.returns-clause-lists
returns-clause-lists c = λ log A m safe some others same. (all_same log A m safe some others same, all_same log A m safe others some (turned some others same))

pub returns-clause-anywhere : goal.returns-clause-anywhere
returns-clause-anywhere c = from_trails

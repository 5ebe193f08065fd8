use Rattle.prefix_laws.proofs.Steps.{are_steps}
use Rattle.prefix_laws.proofs.laws.entries.lists_grow.Goals as goal

pub returns : goal.returns
returns c = are_steps

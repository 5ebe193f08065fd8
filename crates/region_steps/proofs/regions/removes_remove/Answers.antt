use Rattle.std.proofs.Common.{rules}
use Rattle.region_steps.proofs.Changing.{remove_has}
use Rattle.region_steps.proofs.regions.removes_remove.Goals as goal

pub returns : goal.returns
returns c = search (rules, remove_has)

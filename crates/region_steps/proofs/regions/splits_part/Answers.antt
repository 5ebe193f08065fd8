use Rattle.std.proofs.Common.{rules}
use Rattle.region_steps.proofs.Changing.{split_lower, split_upper}
use Rattle.region_steps.proofs.regions.splits_part.Goals as goal

pub returns-clause-lower : goal.returns-clause-lower
returns-clause-lower c = λ log lawful p e at child s is splits had. split_lower log lawful p e is at child splits s had

pub returns-clause-upper : goal.returns-clause-upper
returns-clause-upper c = search (rules, split_upper)

use Rattle.std.proofs.Common.{rules}
use Rattle.region_steps.proofs.Merging.{commit_has, source_gone}
use Rattle.region_steps.proofs.regions.commits_join.Goals as goal

pub returns-clause-target : goal.returns-clause-target
returns-clause-target c = λ log lawful p e source s other is commits had source_had. commit_has log lawful p e is source commits s other had source_had

pub returns-clause-source : goal.returns-clause-source
returns-clause-source c = search (rules, source_gone)

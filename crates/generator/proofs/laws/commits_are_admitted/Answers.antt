use Rattle.generator.proofs.Admitted.{commit_fault}
use Rattle.generator.proofs.laws.commits_are_admitted.Goals as goal

pub returns : goal.returns
returns c = commit_fault

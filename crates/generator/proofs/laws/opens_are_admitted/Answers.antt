use Rattle.generator.proofs.Admitted.{open_fault}
use Rattle.generator.proofs.laws.opens_are_admitted.Goals as goal

pub returns : goal.returns
returns c = open_fault

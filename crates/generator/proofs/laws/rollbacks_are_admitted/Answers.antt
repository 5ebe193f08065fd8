use Rattle.generator.proofs.Admitted.{rollback_fault}
use Rattle.generator.proofs.laws.rollbacks_are_admitted.Goals as goal

pub returns : goal.returns
returns c = rollback_fault

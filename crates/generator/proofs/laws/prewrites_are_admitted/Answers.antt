use Rattle.generator.proofs.Admitted.{prewrite_fault}
use Rattle.generator.proofs.laws.prewrites_are_admitted.Goals as goal

pub returns : goal.returns
returns c = prewrite_fault

use Rattle.row_store.proofs.ManyRegions.{generated_is_shown}
use Rattle.row_store.proofs.examples.generated_is_shown.Goals as goal

pub returns : goal.returns
returns c = generated_is_shown

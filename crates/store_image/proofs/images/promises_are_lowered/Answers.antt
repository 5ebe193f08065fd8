use Rattle.store_image.proofs.Keeping.{at_least_lower}
use Rattle.store_image.proofs.images.promises_are_lowered.Goals as goal

pub returns : goal.returns
returns c = at_least_lower

use Rattle.store_image.proofs.Onward.{for_onward}
use Rattle.store_image.proofs.images.longer_logs_are_stood_for.Goals as goal

pub returns : goal.returns
returns c = for_onward

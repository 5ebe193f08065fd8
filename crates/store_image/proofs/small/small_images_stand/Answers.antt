use Rattle.store_image.proofs.Computed.{small_images_stand}
use Rattle.store_image.proofs.small.small_images_stand.Goals as goal

pub returns : goal.returns
returns c = small_images_stand

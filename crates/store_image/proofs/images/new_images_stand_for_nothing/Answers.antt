use Rattle.store_image.proofs.Begun.{for_new, only_empty}
use Rattle.store_image.proofs.images.new_images_stand_for_nothing.Goals as goal

pub returns-clause-only : goal.returns-clause-only
returns-clause-only c = only_empty

pub returns-clause-so : goal.returns-clause-so
returns-clause-so c = for_new

use Rattle.store_image.proofs.Unique.{sets_one, stores_one}
use Rattle.store_image.proofs.images.images_stand_for_one_set.Goals as goal

pub returns-clause-set : goal.returns-clause-set
returns-clause-set c = sets_one

pub returns-clause-store : goal.returns-clause-store
returns-clause-store c = stores_one

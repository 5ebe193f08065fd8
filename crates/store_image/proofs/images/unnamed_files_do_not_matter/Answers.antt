use Rattle.store_image.proofs.Frames.{beneath_next, fresh_unnamed, one_unnamed, store_on}
use Rattle.store_image.proofs.Keeping.{for_on}
use Rattle.store_image.proofs.images.unnamed_files_do_not_matter.Goals as goal

pub returns-clause-store : goal.returns-clause-store
returns-clause-store c = store_on

pub returns-clause-stands : goal.returns-clause-stands
returns-clause-stands c = for_on

pub returns-clause-one : goal.returns-clause-one
returns-clause-one c = λ own has. one_unnamed own has.state

pub returns-clause-beneath : goal.returns-clause-beneath
returns-clause-beneath c = λ own has. beneath_next own has.state

pub returns-clause-fresh : goal.returns-clause-fresh
returns-clause-fresh c = λ own has. fresh_unnamed own has.state

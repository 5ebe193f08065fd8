use Rattle.store_image.proofs.Begun.{for_begun, old_or_begun}
use Rattle.store_image.proofs.images.new_stores_stand_for_nothing.Goals as goal

pub returns-clause-made : goal.returns-clause-made
returns-clause-made g c = for_begun

pub returns-clause-any_moment : goal.returns-clause-any_moment
returns-clause-any_moment g c = λ log old. old_or_begun log (g.D.Disk.may_leave old)

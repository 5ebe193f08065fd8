use Rattle.manifest.proofs.Keeping.{store_now, store_staged, kept_staged}
use Rattle.manifest.proofs.laws.images_have_the_store.Goals as goal

pub returns-clause-now : goal.returns-clause-now
returns-clause-now g c = λ m old image. store_now m (g.D.Disk.may_leave old) image

pub returns-clause-staged : goal.returns-clause-staged
returns-clause-staged g c = λ m old image. store_staged m (g.D.Disk.may_leave old) image

pub returns-clause-kept : goal.returns-clause-kept
returns-clause-kept g c = λ m old new. kept_staged m (g.D.Disk.may_leave old) (g.D.Disk.may_leave new)

use Rattle.manifest.proofs.Keeping.{kept_one, kept_many}
use Rattle.manifest.proofs.laws.kept_elsewhere.Goals as goal

pub returns-clause-one : goal.returns-clause-one
returns-clause-one g c = λ m file old new. kept_one m file (g.D.Disk.may_leave old) (g.D.Disk.may_leave new)

pub returns-clause-many : goal.returns-clause-many
returns-clause-many g c = λ m old new. kept_many m (g.D.Disk.may_leave old) (g.D.Disk.may_leave new)

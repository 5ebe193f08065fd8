use Rattle.manifest.proofs.Making.{one_new_unmade}
use Rattle.manifest.proofs.laws.one_new_image_is_unmade.Goals as goal

pub returns : goal.returns
returns g c = λ disk. one_new_unmade (g.D.Disk.files disk) (g.D.Disk.may_leave disk)

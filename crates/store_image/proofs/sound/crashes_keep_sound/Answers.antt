use Rattle.store_image.proofs.Keeping.{sound_crashed}
use Rattle.store_image.proofs.sound.crashes_keep_sound.Goals as goal

pub returns : goal.returns
returns g c = λ log old new. sound_crashed log (g.D.Disk.files old) (g.D.Disk.files new) (g.D.Disk.may_leave old) (g.D.Disk.may_leave new)

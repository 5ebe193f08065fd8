use Rattle.store_image.proofs.Keeping.{sound_onward}
use Rattle.store_image.proofs.sound.longer_logs_keep_sound.Goals as goal

pub returns : goal.returns
returns g c = λ short long disk goes lawful. sound_onward short long goes lawful (g.D.Disk.files disk) (g.D.Disk.may_leave disk)

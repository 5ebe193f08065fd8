use Rattle.store_image.proofs.Keeping.{sound_elsewhere}
use Rattle.store_image.proofs.sound.unnamed_files_keep_sound.Goals as goal

pub returns : goal.returns
returns g c = λ log m file old new kept out others from sound.
    sound_elsewhere log m (g.D.Disk.files old) (g.D.Disk.files new) (g.D.Disk.may_leave old) (g.D.Disk.may_leave new) sound kept
    (λ image left. g.met.D.Disk.leaves_files new (g.met.D.Disk.told new image left)) file out others from

use Rattle.store_image.proofs.Keeping.{sound_committed}
use Rattle.store_image.proofs.sound.commits_keep_sound.Goals as goal

pub returns : goal.returns
returns g c = λ log m A state old new kept stand named others from sound.
    sound_committed log m (g.D.Disk.files old) (g.D.Disk.files new) (g.D.Disk.may_leave old) (g.D.Disk.may_leave new) sound kept
    (λ image left. g.met.D.Disk.leaves_files new (g.met.D.Disk.told new image left)) A state stand named others from

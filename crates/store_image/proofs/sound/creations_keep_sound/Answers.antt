use Rattle.store_image.proofs.Keeping.{sound_made, sound_unmade}
use Rattle.store_image.proofs.sound.creations_keep_sound.Goals as goal

pub returns-clause-made : goal.returns-clause-made
returns-clause-made g c = λ log m new. sound_made log m (g.D.Disk.files new) (g.D.Disk.may_leave new) (λ image left. g.met.D.Disk.leaves_files new (g.met.D.Disk.told new image left))

pub returns-clause-failed : goal.returns-clause-failed
returns-clause-failed g c = λ log old new is unmade from sound. sound_unmade log (g.D.Disk.files old) (g.D.Disk.files new) (g.D.Disk.may_leave old) (g.D.Disk.may_leave new) sound is unmade from

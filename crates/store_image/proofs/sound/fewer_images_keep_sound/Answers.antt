use Rattle.std.proofs.Common.{sym, subst}
use Rattle.flash_io.specs.Image.{Image}
use Rattle.store_image.specs.Sound.{IsSound}
use Rattle.store_image.proofs.Keeping.{sound_fewer}
use Rattle.store_image.proofs.sound.fewer_images_keep_sound.Goals as goal

pub returns : goal.returns
returns g c = λ log old new same fewer sound. subst (λ (files : Image). IsSound log files (g.D.Disk.may_leave new)) (sym same) (sound_fewer log (g.D.Disk.files old) (g.D.Disk.may_leave old) (g.D.Disk.may_leave new) fewer sound)

use Rattle.store_image.proofs.Keeping.{opened_regions, opened_segments}
use Rattle.store_image.proofs.sound.opened_images_read_alike.Goals as goal

pub returns-clause-segments : goal.returns-clause-segments
returns-clause-segments g c = λ log m old new ts sound fewer kept read. opened_segments log m (g.D.Disk.files old) (g.D.Disk.may_leave old) (g.D.Disk.may_leave new) sound fewer kept ts read

pub returns-clause-regions : goal.returns-clause-regions
returns-clause-regions g c = λ log m old new A sound fewer kept read. opened_regions log m (g.D.Disk.files old) (g.D.Disk.may_leave old) (g.D.Disk.may_leave new) sound fewer kept A read

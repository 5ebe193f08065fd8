use Rattle.std.proofs.lemmas.Map.Keys.{IsStrictlyIncreasing-from_sorted}
use Rattle.flash_host.proofs.disk.HostDiskDisk.list.Goals as goal

pub returns-in-Ok-clause-rising : goal.returns-in-Ok-clause-rising
returns-in-Ok-clause-rising g c = IsStrictlyIncreasing-from_sorted c.in-Ok.list.items c.in-Ok.ensures

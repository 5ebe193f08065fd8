use Rattle.std.proofs.Common.{◌≡◌}
use Rattle.flash_io.specs.Runs.{Untouched, Counted}
use Rattle.flash_io.proofs.Pieces.{HasFront}
use Rattle.flash_io.proofs.file.append_file.Given as goal

abbrev pub invariant-loop : goal.invariant-loop
invariant-loop g l = record {
  part : g.D.Disk.tells → HasFront (g.D.Disk.files l.fn.disk) l.file l.into.items;
  untouched : Untouched g.D.Disk.files g.D.Disk.may_leave g.D.Disk.moment g.D.Disk.left_since l.fn.disk l.disk;
  counted : Counted g.D.Disk.fault_count g.D.Disk.reader_fault_count g.D.Disk.never_fails l.fn.disk l.disk;
  quiet : g.D.Disk.fault_count l.disk ≡ g.D.Disk.fault_count l.fn.disk;
}

use Rattle.std.proofs.Common.{◌≡◌, [], take}
use Rattle.std.specs.List.{AllByRecursion, flat_map}
use Rattle.flash_io.specs.Runs.{Counted, Untouched}
use Rattle.opened_segments.specs.Faults.{part_faults}
use Rattle.opened_segments.specs.Opened.{AreParts, IsPartIn}
use Rattle.opened_segments.proofs.delta.delta_of.Given as goal

abbrev pub invariant-loop-i : goal.invariant-loop-i
invariant-loop-i g l = record {
  exact : g.D.Disk.tells → flat_map (part_faults l.own (g.D.Disk.files l.initial.disk) l.schema) (take l.i l.stored) ≡ [];
  read : g.D.Disk.tells → AllByRecursion (IsPartIn l.own (g.D.Disk.files l.initial.disk) l.schema l.range) l.layer;
  parts : AreParts l.schema l.range (take l.i l.stored) l.layer;
  untouched : Untouched g.D.Disk.files g.D.Disk.may_leave g.D.Disk.moment g.D.Disk.left_since l.initial.disk l.disk;
  counted : Counted g.D.Disk.fault_count g.D.Disk.reader_fault_count g.D.Disk.never_fails l.initial.disk l.disk;
}

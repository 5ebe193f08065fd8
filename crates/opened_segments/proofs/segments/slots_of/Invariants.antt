use Rattle.std.proofs.Common.{◌≡◌, ℕ, true, [], map, take}
use Rattle.std.specs.List.{AllByRecursion, list_all}
use Rattle.flash_io.specs.Runs.{Counted, Untouched}
use Rattle.manifest_form.specs.States.{segment_below}
use Rattle.segment_flush.specs.Names.{stored_of}
use Rattle.opened_segments.specs.Faults.{faults_in}
use Rattle.opened_segments.specs.Opened.{IsOpenedSlot, IsSlotIn}
use Rattle.opened_segments.proofs.segments.slots_of.Given as goal

abbrev pub invariant-loop-segment : goal.invariant-loop-segment
invariant-loop-segment g l = record {
  exact : g.D.Disk.tells → faults_in l.own (g.D.Disk.files l.initial.disk) l.schema (map (λ segment. segment.now) (take l.segment-index l.stored)) ≡ [];
  read : g.D.Disk.tells → AllByRecursion (IsSlotIn g.D.Reader.Grip.Gripped.bytes l.own (g.D.Disk.files l.initial.disk) l.schema) l.slots.items;
  stored : map stored_of l.slots.items ≡ map (λ segment. segment.now) (take l.segment-index l.stored);
  each_slot : (next : ℕ) → list_all (segment_below next) (map (λ segment. segment.now) (take l.segment-index l.stored)) ≡ true → AllByRecursion (IsOpenedSlot l.schema next) l.slots.items;
  untouched : Untouched g.D.Disk.files g.D.Disk.may_leave g.D.Disk.moment g.D.Disk.left_since l.initial.disk l.disk;
  counted : Counted g.D.Disk.fault_count g.D.Disk.reader_fault_count g.D.Disk.never_fails l.initial.disk l.disk;
}

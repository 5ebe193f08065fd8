use Rattle.std.proofs.Common.{take}
use Rattle.std.specs.List.{AllByRecursion}
use Rattle.flash_io.specs.Image.{Image}
use Rattle.manifest.specs.Stores.{Beneath}
use Rattle.replica_store.specs.Store.{Counted, LeavesAlways, NamesNothing}
use Rattle.segment_flush.specs.Flushing.{flushed_slots, has_more}
use Rattle.segment_list.specs.Slots.{Slotted}
use Rattle.segment_staging.specs.Staging.{AreWritten}
use Rattle.segment_staging.proofs.slots.stage_all.Given as goal

abbrev pub invariant-loop-i : goal.invariant-loop-i
invariant-loop-i g l = record {
  named : NamesNothing g.D.Disk l.fn.store l.store;
  moments : LeavesAlways g.D.Disk l.fn.store l.store (Beneath l.from (g.D.Disk.may_leave l.fn.store.disk));
  written : (c : Image) → g.D.Disk.may_leave l.store.disk c → AllByRecursion (λ (s : Slotted _). AreWritten l.schema l.from c s.files) (flushed_slots has_more l.from (take l.i l.list));
  counted : Counted g.D.Disk l.fn.store l.store;
}

use Rattle.std.proofs.Common.{◌≡◌, take}
use Rattle.flash_io.specs.Image.{Image}
use Rattle.manifest.specs.Stores.{Beneath}
use Rattle.replica_store.specs.Store.{Counted, LeavesAlways, NamesNothing}
use Rattle.segment_list.specs.Flushes.{after_files, flushed_files}
use Rattle.segment_staging.specs.Staging.{AreWritten}
use Rattle.segment_staging.proofs.files.stage_layer.Given as goal

abbrev pub invariant-loop-i : goal.invariant-loop-i
invariant-loop-i g l = record {
  number : l.number ≡ after_files l.from (take l.i l.layer);
  named : NamesNothing g.D.Disk l.fn.store l.store;
  moments : LeavesAlways g.D.Disk l.fn.store l.store (Beneath l.from (g.D.Disk.may_leave l.fn.store.disk));
  written : (c : Image) → g.D.Disk.may_leave l.store.disk c → AreWritten l.schema l.fn.store.manifest.state.next c (flushed_files l.from (take l.i l.layer));
  counted : Counted g.D.Disk l.fn.store l.store;
}

use Rattle.store_clearing.specs.Clearing.{IsLeftBut, SameButThese}
use Rattle.store_clearing.proofs.Removing.{AreGoneBelow, AreThereFrom}
use Rattle.replica_store.specs.Store.{Counted, LeavesAlways, NamesNothing}
use Rattle.store_clearing.proofs.clearing.remove_all.Given as goal

abbrev pub invariant-loop-i : goal.invariant-loop-i
invariant-loop-i g l = record {
  named : NamesNothing g.D.Disk l.fn.store l.store;
  there : g.D.Disk.tells → AreThereFrom l.i l.files (g.D.Disk.files l.store.disk);
  gone : g.D.Disk.tells → AreGoneBelow l.i l.files (g.D.Disk.files l.store.disk);
  stays : SameButThese l.files (g.D.Disk.files l.fn.store.disk) (g.D.Disk.files l.store.disk);
  moments : LeavesAlways g.D.Disk l.fn.store l.store (IsLeftBut l.files (g.D.Disk.may_leave l.fn.store.disk));
  counted : Counted g.D.Disk l.fn.store l.store;
}

use Rattle.region_file.proofs.Alike.{AreAlike}
use Rattle.region_file.proofs.same.same_locks.Given as goal

abbrev pub invariant-loop-handle : goal.invariant-loop-handle
invariant-loop-handle l = AreAlike l.handle-iterator l.others l.a.locks l.b.locks

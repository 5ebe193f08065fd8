use Rattle.region_file.proofs.Going.{Going}
use Rattle.region_file.specs.Spelling as spelling
use Rattle.region_file.specs.Spelling.{LockFits}
use Rattle.region_file.proofs.put.put_each_lock.Given as goal

abbrev pub invariant-loop-handle : goal.invariant-loop-handle
invariant-loop-handle l = Going spelling.lock LockFits l.region.locks l.initial.into.items l.handle-iterator l.into.items

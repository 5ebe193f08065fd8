use Rattle.std.proofs.Common.{◌≡◌, take}
use Rattle.committed_log.specs.Store.{after_ops}
use Rattle.row_store.proofs.entries.do_ops.Given as goal

abbrev pub invariant-loop-op : goal.invariant-loop-op
invariant-loop-op l = l.store ≡ after_ops l.table l.range l.position l.fn.store (take l.op-index l.ops)

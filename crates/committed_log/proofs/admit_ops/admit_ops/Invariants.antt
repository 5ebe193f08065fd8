use Rattle.std.proofs.Common.{◌≡◌, ◌++◌, take, drop}
use Rattle.committed_log.specs.Store.{after_ops}
use Rattle.committed_log.specs.Admission.{ops_fault_from}
use Rattle.committed_log.specs.Families.{Holds, Returns}
use Rattle.committed_log.specs.Repeats.{repeated_from}
use Rattle.committed_log.proofs.admit_ops.admit_ops.Given as goal

abbrev pub invariant-loop-k : goal.invariant-loop-k
invariant-loop-k g l = record {
  holds : Holds l.families (after_ops l.table l.range l._position g.from.store (take l.k l.ops));
  returns : Returns l.families g.from.before;
  same : ops_fault_from l.table l.schema l.range l._position g.from.store 0 l.ops ≡ ops_fault_from l.table l.schema l.range l._position (after_ops l.table l.range l._position g.from.store (take l.k l.ops)) l.k (drop l.k l.ops);
  repeated : repeated_from l.table l.range l._position g.from.store 0 l.ops ≡ l.repeated.items ++ repeated_from l.table l.range l._position (after_ops l.table l.range l._position g.from.store (take l.k l.ops)) l.k (drop l.k l.ops);
}

abbrev pub ghost-admit_op : goal.ghost-admit_op
ghost-admit_op g a = record { store = after_ops a.table a.range a._position g.from.store (take a.k a.ops.now); before = g.from.before }

use Rattle.std.proofs.Common.{◌≡◌, ℕ, take}
use Rattle.committed_log.specs.Store.{Store, after_ops}
use Rattle.log_rows.specs.Folds.{Holds}
use Rattle.log_rows.proofs.fold.Fold.ops.Given as goal

abbrev pub invariant-loop-op : goal.invariant-loop-op
invariant-loop-op l = record {
  ts : l.self.ts ≡ l.fn.self.ts;
  holds : (p : ℕ) (s : Store) → Holds s l.fn.self.ts l.fn.self.values l.fn.self.handles → Holds (after_ops l.table l.range p s (take l.op-index l.ops)) l.fn.self.ts l.self.values l.self.handles;
}

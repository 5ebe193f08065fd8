use Rattle.std.proofs.Common.{◌≡◌, drop}
use Rattle.committed_log.specs.Replies.{first_lock}
use Rattle.row_store.proofs.reads.first_lock.Given as goal

abbrev pub invariant-loop-lock : goal.invariant-loop-lock
invariant-loop-lock l = first_lock (drop l.lock-index l.locks) l.range l.ts ≡ first_lock l.locks l.range l.ts

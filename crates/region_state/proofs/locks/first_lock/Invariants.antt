use Rattle.std.proofs.Common.{◌≡◌, find, ℤ}
use Rattle.committed_log.specs.Replies.{first_lock}
use Rattle.committed_log.specs.declared.store.Lock.{Lock}
use Rattle.region_state.specs.Blocking.{blocks_at}
use Rattle.region_state.proofs.locks.first_lock.Given as goal

abbrev pub invariant-loop-handle : goal.invariant-loop-handle
invariant-loop-handle l = first_lock l.locks.entries l.fn.range l.ts ≡ find (λ (e : ℤ × Lock). blocks_at l.ts e.1) l.handle-iterator

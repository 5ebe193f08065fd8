use Rattle.std.proofs.Common.{◌≡◌, ℤ, filter, not}
use Rattle.flash_types.specs.Ranges.{holds}
use Rattle.committed_log.specs.declared.store.Lock.{Lock}
use Rattle.row_store.proofs.outside.locks_outside.Given as goal

abbrev pub invariant-loop-entry : goal.invariant-loop-entry
invariant-loop-entry l = l.kept.items ≡ filter (λ (e : ℤ × Lock). not (holds l.range e.0)) l.yielded

use Rattle.std.proofs.Common.{◌≡◌, filter, not}
use Rattle.flash_types.specs.Ranges.{holds}
use Rattle.committed_log.specs.declared.store.Commit.{Commit}
use Rattle.row_store.proofs.outside.commits_outside.Given as goal

abbrev pub invariant-loop-commit : goal.invariant-loop-commit
invariant-loop-commit l = l.kept.items ≡ filter (λ (c : Commit). not (holds l.range c.handle)) l.yielded

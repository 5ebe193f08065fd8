use Rattle.std.proofs.Common.{◌≡◌, take, option_map}
use Rattle.committed_log.specs.Store.{newest}
use Rattle.row_store.specs.Newest.{is_up_to}
use Rattle.row_store.proofs.store.newest.Given as goal

abbrev pub invariant-loop-commit : goal.invariant-loop-commit
invariant-loop-commit l = option_map (λ c. c.now) l.best ≡ newest (is_up_to l.most) l.handle (take l.commit-index l.commits)

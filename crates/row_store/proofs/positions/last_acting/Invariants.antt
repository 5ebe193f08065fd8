use Rattle.std.proofs.Common.{◌≡◌}
use Rattle.std.specs.Prelude.{filter, ◌&&◌}
use Rattle.committed_log.specs.Applied.{first_numbers, acts_at, last}
use Rattle.row_store.specs.Tests.{in_set}
use Rattle.row_store.proofs.positions.last_acting.Given as goal

abbrev pub invariant-loop-p : goal.invariant-loop-p
invariant-loop-p l = l.found ≡ last (filter (λ p. in_set l.set p && acts_at l.log l.r p) (first_numbers l.p))

use Rattle.std.proofs.Common.{◌≡◌, not}
use Rattle.std.specs.Prelude.{find, ◌&&◌}
use Rattle.committed_log.specs.Applied.{first_numbers, acts_at}
use Rattle.row_store.specs.Tests.{in_set}
use Rattle.row_store.proofs.positions.next.Given as goal

abbrev pub invariant-loop-p : goal.invariant-loop-p
invariant-loop-p l = l.found ≡ find (λ p. not (in_set l.set p) && acts_at l.log l.r p) (first_numbers l.p)

use Rattle.std.proofs.Common.{◌≡◌}
use Rattle.std.specs.Prelude.{find}
use Rattle.committed_log.specs.Applied.{first_numbers, has_index, left_at}
use Rattle.row_store.proofs.positions.place.Given as goal

abbrev pub invariant-loop-p : goal.invariant-loop-p
invariant-loop-p l = l.found ≡ find (λ p. has_index l.index (left_at l.log l.r p)) (first_numbers l.p)

use Rattle.std.proofs.Common.{◌≡◌}
use Rattle.std.specs.Prelude.{find, nat_lt, ◌&&◌}
use Rattle.committed_log.specs.Applied.{first_numbers, acts_at}
use Rattle.row_store.proofs.positions.acting_after.Given as goal

abbrev pub invariant-loop-q : goal.invariant-loop-q
invariant-loop-q l = l.found ≡ find (λ q. nat_lt l.p q && acts_at l.log l.r q) (first_numbers l.q)

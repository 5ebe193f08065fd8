use Rattle.std.proofs.Common.{◌≡◌, ◌≤◌, ◌<◌, ℕ, false, length}
use Rattle.region_table.specs.Counting.{applied_in}
use Rattle.replica_state.proofs.opening.highest_of.Given as goal

abbrev pub invariant-loop-end : goal.invariant-loop-end
invariant-loop-end l = record {
  within : l.end ≤ length l.logs.entries;
  none : (q : ℕ) → l.end ≤ q → q < length l.logs.entries → applied_in l.logs l.table.regions q ≡ false;
}

abbrev pub decreases-loop-end : goal.decreases-loop-end
decreases-loop-end l = l.end

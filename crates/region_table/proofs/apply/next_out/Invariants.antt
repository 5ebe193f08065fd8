use Rattle.std.proofs.Common.{◌≡◌, ◌≤◌, ◌<◌, ℕ, true}
use Rattle.region_table.specs.Counting.{applied_in}
use Rattle.region_table.proofs.apply.next_out.Given as goal

abbrev pub invariant-loop-position : goal.invariant-loop-position
invariant-loop-position l = (q : ℕ) → l.from ≤ q → q < l.position → applied_in l.logs l.regions.entries q ≡ true

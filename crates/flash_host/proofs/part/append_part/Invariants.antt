use Rattle.std.proofs.Common.{◌-◌, ◌≡◌, ◌≤◌, ◌++◌, List, ℕ, length}
use Rattle.flash_host.proofs.part.append_part.Given as goal

abbrev pub invariant-loop-taken : goal.invariant-loop-taken
invariant-loop-taken l = record {
  within : l.taken ≤ l.len;
  front : (bytes : List ℕ) × (l.into.items ≡ l.fn.into.items ++ bytes) × (length bytes ≡ l.taken);
}

abbrev pub decreases-loop-taken : goal.decreases-loop-taken
decreases-loop-taken l = l.len - l.taken

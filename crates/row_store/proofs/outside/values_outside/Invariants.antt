use Rattle.std.proofs.Common.{◌≡◌, ℕ, ℤ, List, filter, not}
use Rattle.flash_types.specs.Ranges.{holds}
use Rattle.row_store.proofs.outside.values_outside.Given as goal

abbrev pub invariant-loop-entry : goal.invariant-loop-entry
invariant-loop-entry l = l.kept.items ≡ filter (λ (e : (ℤ × ℕ) × List ℕ). not (holds l.range e.0.0)) l.yielded

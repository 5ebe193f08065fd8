use Rattle.std.proofs.Common.{◌≡◌, not, filter, length}
use Rattle.flash_types.specs.Ranges.{holds}
use Rattle.log_rows.proofs.clear.clear_values.Given as goal

abbrev pub invariant-loop-key : goal.invariant-loop-key
invariant-loop-key l = filter (λ e. not (holds l.range e.0.0)) l.values.entries ≡ filter (λ e. not (holds l.range e.0.0)) l.fn.values.entries

abbrev pub decreases-loop-key : goal.decreases-loop-key
decreases-loop-key l = length l.values.entries

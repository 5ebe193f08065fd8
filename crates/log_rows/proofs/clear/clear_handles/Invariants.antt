use Rattle.std.proofs.Common.{◌≡◌, not, filter, length}
use Rattle.flash_types.specs.Ranges.{holds}
use Rattle.log_rows.proofs.clear.clear_handles.Given as goal

abbrev pub invariant-loop-handle : goal.invariant-loop-handle
invariant-loop-handle l = filter (λ e. not (holds l.range e.0)) l.handles.entries ≡ filter (λ e. not (holds l.range e.0)) l.fn.handles.entries

abbrev pub decreases-loop-handle : goal.decreases-loop-handle
decreases-loop-handle l = length l.handles.entries

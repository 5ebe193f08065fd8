use Rattle.std.proofs.Common.{◌≡◌, take}
use Rattle.std.specs.List.{fold}
use Rattle.row_reads.specs.Steps.{with_handle}
use Rattle.row_reads.proofs.shown.add_handles.Given as goal

abbrev pub invariant-loop-commit : goal.invariant-loop-commit
invariant-loop-commit l = l.found.items ≡ fold with_handle l.fn.found.items (take l.commit-index l.commits)

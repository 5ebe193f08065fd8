use Rattle.std.proofs.Common.{◌≡◌, take, []}
use Rattle.std.specs.List.{fold, flat_map}
use Rattle.committed_log.specs.Reads.{commits_of}
use Rattle.row_reads.specs.Steps.{with_handle}
use Rattle.row_reads.proofs.shown.handles_of.Given as goal

abbrev pub invariant-loop-cut : goal.invariant-loop-cut
invariant-loop-cut l = l.found.items ≡ fold with_handle [] (flat_map (commits_of l.log) (take l.cut-index l.cuts))

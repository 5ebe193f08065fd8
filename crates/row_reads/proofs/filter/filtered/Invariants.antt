use Rattle.std.proofs.Common.{◌≡◌, filter}
use Rattle.committed_log.specs.Reads.{is_within}
use Rattle.row_reads.proofs.filter.filtered.Given as goal

abbrev pub invariant-loop-row : goal.invariant-loop-row
invariant-loop-row l = l.left.items ≡ filter (is_within l.bound) l.yielded

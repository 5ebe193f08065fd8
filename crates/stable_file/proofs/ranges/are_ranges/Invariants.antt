use Rattle.std.proofs.Common.{◌≡◌, drop}
use Rattle.stable_file.specs.Ranges.{are_ranges}
use Rattle.stable_file.proofs.ranges.are_ranges.Given as goal

abbrev pub invariant-loop-column : goal.invariant-loop-column
invariant-loop-column l = are_ranges (drop l.column l.told) l.column l.block ≡ are_ranges l.told 0 l.block

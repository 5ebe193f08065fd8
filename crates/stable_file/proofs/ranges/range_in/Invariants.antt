use Rattle.std.proofs.Common.{◌≡◌, slice_range}
use Rattle.column_block.specs.declared.column.MinMax.TheVariants.{Empty}
use Rattle.stable_file.specs.Ranges.{range_with}
use Rattle.stable_file.proofs.ranges.range_in.Given as goal

abbrev pub invariant-loop-i : goal.invariant-loop-i
invariant-loop-i l = range_with l.column l.range (slice_range l.block l.i l.to) ≡ range_with l.column Empty (slice_range l.block l.from l.to)

use Rattle.stable_file.specs.Ranges.{are_ranges}
use Rattle.stable_file.proofs.Rising.{same_next, other_range, ranges_done}
use Rattle.stable_file.proofs.ranges.are_ranges.Goals as goal

pub returns-then-not-same_range : goal.returns-then-not-same_range
returns-then-not-same_range c = other_range c.args.told.now c.args.block.now c.loop-column.column _ c.range_of.result c.same_range.result (are_ranges c.args.told.now 0 c.args.block.now) c.loop-column-test.true c.range_of.ensures c.same_range.ensures c.if-not-same_range.true c.loop-column.invariant

pub loop-column-preserved : goal.loop-column-preserved
loop-column-preserved c = same_next c.args.told.now c.args.block.now c.loop-column.column _ c.range_of.result c.same_range.result (are_ranges c.args.told.now 0 c.args.block.now) c.loop-column-test.true c.range_of.ensures c.same_range.ensures c.if-not-same_range.false c.loop-column.invariant

pub returns : goal.returns
returns c = ranges_done c.args.told.now c.args.block.now c.loop-column.column (are_ranges c.args.told.now 0 c.args.block.now) c.loop-column-test.false c.loop-column.invariant

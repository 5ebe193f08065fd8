use Rattle.std.proofs.Common.{slice_range, arith}
use Rattle.column_block.specs.declared.column.MinMax.TheVariants.{Empty}
use Rattle.stable_file.specs.Ranges.{range_with}
use Rattle.stable_file.proofs.Rising.{range_more, range_done}
use Rattle.stable_file.proofs.ranges.range_in.Goals as goal

pub loop-i-preserved : goal.loop-i-preserved
loop-i-preserved c = range_more c.args.column c.args.block.now c.loop-i.i c.args.to c.at.result.now c.loop-i.range c.with_version-range.result (range_with c.args.column Empty (slice_range c.args.block.now c.args.from c.args.to)) (omega arith) (omega arith) c.at.ensures c.with_version-range.ensures c.loop-i.invariant

pub returns : goal.returns
returns c = range_done c.args.column c.args.block.now c.loop-i.i c.args.to c.loop-i.range (range_with c.args.column Empty (slice_range c.args.block.now c.args.from c.args.to)) (omega arith) c.loop-i.invariant

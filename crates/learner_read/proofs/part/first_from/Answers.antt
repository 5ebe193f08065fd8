use Rattle.std.proofs.Common.{◌+◌, ◌-◌, ◌/◌, arith, to_z, of_z, w64}
use Rattle.std.proofs.lemmas.Int.{ints}
use Rattle.column_block.proofs.Ordered.{up_from_rises}
use Rattle.learner_read.proofs.Testing.{above_at, below_at}
use Rattle.learner_read.proofs.part.first_from.Goals as goal

pub loop-low-preserved-then-version-handle : goal.loop-low-preserved-then-version-handle
loop-low-preserved-then-version-handle c = record {
  order = omega arith;
  within = c.loop-low.invariant.within;
  below = below_at (to_z w64 (of_z w64 c.args.handle)) c.args.block.now (c.loop-low.low + (c.loop-low.high - c.loop-low.low) / 2) c.at-version.result.now (up_from_rises c.args.block.now c.requires) c.at-version.ensures (omega (arith, ints));
  above = c.loop-low.invariant.above;
}

pub loop-low-preserved : goal.loop-low-preserved
loop-low-preserved c = record {
  order = omega arith;
  within = omega arith;
  below = c.loop-low.invariant.below;
  above = above_at (to_z w64 (of_z w64 c.args.handle)) c.args.block.now (c.loop-low.low + (c.loop-low.high - c.loop-low.low) / 2) c.at-version.result.now (up_from_rises c.args.block.now c.requires) c.at-version.ensures (omega (arith, ints));
}

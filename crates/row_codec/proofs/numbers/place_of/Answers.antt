use Rattle.std.proofs.Common.{arith}
use Rattle.row_codec.proofs.Lists.{at_most_here, at_least_here}
use Rattle.row_codec.proofs.numbers.place_of.Goals as goal

pub loop-low-preserved-then-found-number-2 : goal.loop-low-preserved-then-found-number-2
loop-low-preserved-then-found-number-2 c = record {
  order = omega arith;
  within = c.loop-low.invariant.within;
  below = λ k lt. at_most_here c.args.all.now c.args.number k _ c.requires (omega arith) (omega (arith, c.at-found.ensures)) lt;
  above = c.loop-low.invariant.above;
}

pub loop-low-preserved : goal.loop-low-preserved
loop-low-preserved c = record {
  order = omega arith;
  within = omega arith;
  below = c.loop-low.invariant.below;
  above = λ k le within. at_least_here c.args.all.now c.args.number k _ c.requires within (omega (arith, c.at-found.ensures)) le;
}

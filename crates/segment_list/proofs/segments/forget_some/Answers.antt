use Rattle.std.proofs.Common.{arith}
use Rattle.segment_list.proofs.segments.forget_some.Goals as goal

pub returns : goal.returns
returns g c = λ q none. c.loop-i.invariant q (λ k d ge lt. none k d ge (omega (arith, ge, lt, c.loop-i.auto, c.loop-i-test.false, c.requires.order)))

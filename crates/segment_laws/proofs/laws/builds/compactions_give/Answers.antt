use Rattle.std.proofs.Common.{arith}
use Rattle.delta_layer.proofs.Blocks.{can_compact}
use Rattle.segment_laws.proofs.laws.builds.compactions_give.Goals as goal

pub returns : goal.returns
returns g c = λ columns old built is file. can_compact old.delta is.from is.to file (let many = is.run.many in omega (arith, many)) is.run.within is.run.tinies

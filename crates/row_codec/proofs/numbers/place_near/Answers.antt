use Rattle.std.proofs.Common.{arith, ap, get_or}
use Rattle.row_codec.proofs.Lists.{before_all, between}
use Rattle.row_codec.proofs.numbers.place_near.Goals as goal

pub returns-then-near-eq0 : goal.returns-then-near-eq0
returns-then-near-eq0 c = λ k lt same. before_all c.args.all.now c.args.number k c.requires (omega (arith, c.at-here.ensures, ap (λ i. get_or c.args.all.now i 0) c.if-near-eq0.true)) lt same

pub returns-then-before-number : goal.returns-then-before-number
returns-then-before-number c = λ k lt same. between c.args.all.now c.args.number c.args.near k c.requires (omega arith) (omega (arith, c.at-here.ensures)) (omega (arith, c.at-before.ensures)) lt same

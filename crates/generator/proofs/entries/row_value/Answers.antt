use Rattle.std.proofs.Common.{ap, length, arith}
use Rattle.generator.specs.Generated.{value, row_of}
use Rattle.generator.proofs.RowValues.{value_length}
use Rattle.generator.proofs.entries.row_value.Goals as goal

pub returns-in-Ok-clause-few : goal.returns-in-Ok-clause-few
returns-in-Ok-clause-few c = omega (arith, ap length c.in-Ok.ensures, ap (λ r. length (value r c.args.i)) c.row_of.ensures.row, value_length (row_of c.args.x) c.args.i)

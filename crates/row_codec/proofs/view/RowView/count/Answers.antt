use Rattle.std.proofs.Common.{length, ap, arith, length-append}
use Rattle.row_codec.proofs.Views.{ids_are}
use Rattle.row_codec.proofs.view.RowView.count.Goals as goal

pub returns : goal.returns
returns c = omega (arith, c.len.ensures, c.len-2.ensures, ap length (ids_are c.self.inside.ids c.self.inside.nulls c.self.inside.ends c.self.inside.values.now c.args.self.now c.self.invariant.each_ends c.self.view_is), length-append c.self.inside.ids c.self.inside.nulls)

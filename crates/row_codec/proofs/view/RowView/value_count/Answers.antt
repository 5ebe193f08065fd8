use Rattle.std.proofs.Common.{◌∙◌}
use Rattle.row_codec.proofs.Views.{values_count}
use Rattle.row_codec.proofs.view.RowView.value_count.Goals as goal

pub returns : goal.returns
returns c = c.len.ensures ∙ values_count c.self.inside.ids c.self.inside.nulls c.self.inside.ends c.self.inside.values.now c.args.self.now c.self.invariant.each_ends c.self.view_is

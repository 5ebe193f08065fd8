use Rattle.row_codec.proofs.Views.{lookup_is_value, lookup_is_none}
use Rattle.row_codec.proofs.view.RowView.value_near.Goals as goal

pub returns-in-Some : goal.returns-in-Some
returns-in-Some c = lookup_is_value c.self.inside.ids c.self.inside.nulls c.self.inside.ends c.self.inside.values.now c.args.self.now c.self.invariant.each_ends c.self.view_is c.in-Some.k c.args.id c.value_at.result.now c.self.invariant.rise c.in-Some.ensures.0 c.in-Some.ensures.1 c.value_at.ensures

pub returns-in-None : goal.returns-in-None
returns-in-None c = lookup_is_none c.self.inside.ids c.self.inside.nulls c.self.inside.ends c.self.inside.values.now c.args.self.now c.self.invariant.each_ends c.self.view_is c.args.id c.in-None.ensures

use Rattle.row_codec.proofs.Views.{field_is_value, field_is_null, field_is_none}
use Rattle.row_codec.proofs.view.RowView.get.Goals as goal

pub returns-in-Some : goal.returns-in-Some
returns-in-Some c = field_is_value c.self.inside.ids c.self.inside.nulls c.self.inside.ends c.self.inside.values.now c.args.self.now c.self.invariant.each_ends c.self.view_is c.in-Some.k c.args.id c.value_at.result.now c.self.invariant.rise c.in-Some.ensures.0 c.in-Some.ensures.1 c.value_at.ensures

pub returns-in-Some-place_of : goal.returns-in-Some-place_of
returns-in-Some-place_of c = field_is_null c.self.inside.ids c.self.inside.nulls c.self.inside.ends c.self.inside.values.now c.args.self.now c.self.invariant.each_ends c.self.view_is c.in-Some-place_of.field-0 c.args.id c.in_default.ensures c.in-Some-place_of.ensures.0 c.in-Some-place_of.ensures.1

pub returns-in-None : goal.returns-in-None
returns-in-None c = field_is_none c.self.inside.ids c.self.inside.nulls c.self.inside.ends c.self.inside.values.now c.args.self.now c.self.invariant.each_ends c.self.view_is c.args.id c.in_default.ensures c.in-None.ensures

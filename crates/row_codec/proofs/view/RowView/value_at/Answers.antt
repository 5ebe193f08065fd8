use Rattle.std.proofs.Common.{◌<◌, length, arith}
use Rattle.row_codec.proofs.Views.{values_count, value_is}
use Rattle.row_codec.proofs.view.RowView.value_at.Goals as goal

pub at-requires : goal.at-requires
at-requires c = omega (arith, c.requires, values_count c.self.inside.ids c.self.inside.nulls c.self.inside.ends c.self.inside.values.now c.args.self.now c.self.invariant.each_ends c.self.view_is)

pub value_at-requires-clause-place : goal.value_at-requires-clause-place
value_at-requires-clause-place c = omega (arith, c.requires, c.self.invariant.each_ends, values_count c.self.inside.ids c.self.inside.nulls c.self.inside.ends c.self.inside.values.now c.args.self.now c.self.invariant.each_ends c.self.view_is)

pub returns : goal.returns
returns c =
    let lt : c.args.k < length c.self.inside.ids = omega (arith, c.requires, values_count c.self.inside.ids c.self.inside.nulls c.self.inside.ends c.self.inside.values.now c.args.self.now c.self.invariant.each_ends c.self.view_is) in
    value_is c.self.inside.ids c.self.inside.nulls c.self.inside.ends c.self.inside.values.now c.args.self.now c.self.invariant.each_ends c.self.view_is c.args.k c.at.result c.value_at.result.now lt c.at.ensures c.value_at.ensures

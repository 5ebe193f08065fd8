use Rattle.std.proofs.Common.{◌<◌, ◌≤◌, length, ap, ◌-◌, get_or, ◌∙◌, arith, length-append}
use Rattle.row_codec.proofs.Views.{ids_are, id_is, null_id_is}
use Rattle.row_codec.proofs.view.RowView.id_at.Goals as goal

pub returns-then-k-len : goal.returns-then-k-len
returns-then-k-len c =
    let lt : c.args.k < length c.self.inside.ids = omega (arith, c.len.ensures, c.if-k-len.true) in
    id_is c.self.inside.ids c.self.inside.nulls c.self.inside.ends c.self.inside.values.now c.args.self.now c.self.invariant.each_ends c.self.view_is c.args.k c.at.result lt c.at.ensures

pub at-requires-2 : goal.at-requires-2
at-requires-2 c = omega (arith, c.requires, c.len.ensures, c.len-2.ensures, c.if-k-len.false, ap length (ids_are c.self.inside.ids c.self.inside.nulls c.self.inside.ends c.self.inside.values.now c.args.self.now c.self.invariant.each_ends c.self.view_is), length-append c.self.inside.ids c.self.inside.nulls)

pub returns : goal.returns
returns c =
    let le : length c.self.inside.ids ≤ c.args.k = omega (arith, c.len.ensures, c.if-k-len.false) in
    null_id_is c.self.inside.ids c.self.inside.nulls c.self.inside.ends c.self.inside.values.now c.args.self.now c.self.invariant.each_ends c.self.view_is c.args.k c.at-2.result le c.requires (c.at-2.ensures ∙ ap (λ n. get_or c.self.inside.nulls (c.args.k - n) 0) c.len-2.ensures)

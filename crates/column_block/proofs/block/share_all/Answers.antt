use Rattle.std.proofs.Common.{map, take, ap, ◌∙◌, arith}
use Rattle.std.specs.Arc.{arc_value}
use Rattle.column_block.proofs.Lists.{cut_back}
use Rattle.column_block.proofs.block.share_all.Goals as goal

pub returns-in-Err-clause-err : goal.returns-in-Err-clause-err
returns-in-Err-clause-err c =
    let grown = c.in-Err.ensures.err ∙ c.loop-one.invariant in
    let back = cut_back arc_value c.reserve.new.self.items c.share.new.into.items c.len-before.result (map arc_value (take c.loop-one.one-index c.args.from.now)) (omega arith) grown in
    ap (map arc_value) c.truncate.ensures.items ∙ back ∙ ap (map arc_value) c.reserve.ensures.items

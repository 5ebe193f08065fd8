use Rattle.std.proofs.Common.{sym, ◌∙◌}
use Rattle.pack_codec.specs.Rows.{null_from}
use Rattle.pack_codec.proofs.RowSteps.{null_next}
use Rattle.pack_codec.proofs.rows.null_where_gone.Goals as goal

pub loop-i-preserved : goal.loop-i-preserved
loop-i-preserved c = null_next c.args.marks.now c.args.list.now c.loop-i.i c.args.count (null_from c.args.marks.now c.args.list.now 0 c.args.count) c.loop-i-test.true (sym c.may_have.ensures ∙ c.if-not-may_have.false) c.loop-i.invariant

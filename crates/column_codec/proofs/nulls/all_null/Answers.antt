use Rattle.std.proofs.Common.{sym, ◌∙◌}
use Rattle.column_codec.specs.Nulls.{nulls_from}
use Rattle.column_codec.proofs.NullSteps.{null_more, all_null}
use Rattle.column_codec.proofs.nulls.all_null.Goals as goal

pub loop-i-preserved : goal.loop-i-preserved
loop-i-preserved c = null_more c.args.bitmap.now c.loop-i.i c.args.count (all_null (nulls_from c.args.bitmap.now 0 c.args.count)) c.loop-i-test.true (sym c.is_null.ensures ∙ c.if-not-is_null.false) c.loop-i.invariant

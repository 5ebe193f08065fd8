use Rattle.std.proofs.Common.{[], sym, ◌∙◌}
use Rattle.column_codec.specs.Nulls.{nulls_from}
use Rattle.column_codec.specs.Numbers.{text_at}
use Rattle.column_codec.proofs.ValueSteps.{all_null_listed}
use Rattle.column_codec.proofs.texts.same_text.Goals as goal

pub returns-then-all_null : goal.returns-then-all_null
returns-then-all_null c = all_null_listed (text_at c.args.end) (tt {0}) c.args.bytes.now (nulls_from c.args.bitmap.now 0 c.args.count) [] c.in_ok-list.list (sym c.all_null.ensures ∙ c.if-all_null.true) c.in_ok-list.ensures

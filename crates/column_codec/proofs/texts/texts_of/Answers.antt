use Rattle.std.proofs.Common.{sym, ◌∙◌}
use Rattle.std.proofs.lemmas.Result.{err_from_is_err_and}
use Rattle.column_codec.specs.Numbers.{text_at}
use Rattle.column_codec.specs.Nulls.{nulls_from}
use Rattle.column_codec.specs.Lists.{values_at}
use Rattle.column_codec.proofs.ValueSteps.{null_next, value_next, fails_here, is_done}
use Rattle.column_codec.proofs.texts.texts_of.Goals.{then-is_null+in-Ok, else-is_null+in_ok-text+in-Ok-push}
use Rattle.column_codec.proofs.texts.texts_of.Goals as goal

pub returns-in_err-text : goal.returns-in_err-text
returns-in_err-text c =
    let p = err_from_is_err_and c.from_residual-in_err-text.result c.from_residual-in_err-text.ensures.1 in
    let total = values_at (text_at c.args.end) (λ _. tt {0}) (nulls_from c.args.bitmap.now 0 c.args.count) (tt {0}) c.args.bytes.now in
    rw (p.1, p.2) (fails_here (text_at c.args.end) (λ _. tt {0}) c.loop-i.list c.args.bitmap.now c.args.count c.loop-i.i (tt {0}) c.loop-i.rest.now c.in_err-text.field-0.0 total c.loop-i-test.true (sym c.is_null.ensures ∙ c.if-is_null.false) (sym c.in_err-text.ensures) c.loop-i.invariant)

pub loop-i-preserved : goal.loop-i-preserved
loop-i-preserved c =
    let total = values_at (text_at c.args.end) (λ _. tt {0}) (nulls_from c.args.bitmap.now 0 c.args.count) (tt {0}) c.args.bytes.now in
    elim c.if-is_null.branch [
      | then-is_null+in-Ok w ↦ rw (w.list-is, w.rest-is, w.in-Ok.ensures.ok) (null_next (text_at c.args.end) (λ _. tt {0}) c.loop-i.list c.args.bitmap.now c.args.count c.loop-i.i (tt {0}) c.loop-i.rest.now total c.loop-i-test.true (sym c.is_null.ensures ∙ w.if-is_null.true) c.loop-i.invariant)
      | else-is_null+in_ok-text+in-Ok-push w ↦ rw (w.list-is, w.rest-is, w.in-Ok-push.ensures.ok) (value_next (text_at c.args.end) (λ _. tt {0}) c.loop-i.list c.args.bitmap.now c.args.count c.loop-i.i (tt {0}) c.loop-i.rest.now w.in_ok-text.text.now w.in_ok-text.behind.now total c.loop-i-test.true (sym c.is_null.ensures ∙ w.if-is_null.false) (sym w.in_ok-text.ensures) c.loop-i.invariant)
    ]

pub returns : goal.returns
returns c = is_done (text_at c.args.end) (λ _. tt {0}) c.loop-i.list c.args.bitmap.now c.args.count c.loop-i.i (tt {0}) c.loop-i.rest.now (values_at (text_at c.args.end) (λ _. tt {0}) (nulls_from c.args.bitmap.now 0 c.args.count) (tt {0}) c.args.bytes.now) c.loop-i-test.false c.loop-i.invariant

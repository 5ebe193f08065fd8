use Rattle.std.proofs.Common.{sym, ◌∙◌}
use Rattle.std.proofs.lemmas.Result.{err_from_is_err_and}
use Rattle.column_codec.specs.Numbers.{uint_at}
use Rattle.column_codec.specs.Nulls.{nulls_from}
use Rattle.column_codec.specs.Lists.{values_at}
use Rattle.column_codec.proofs.ValueSteps.{starts, null_next, value_next, fails_here, is_done}
use Rattle.column_codec.proofs.values.uints_of.Goals.{then-is_null+in-Ok, else-is_null+in_ok-n+in-Ok-push}
use Rattle.column_codec.proofs.values.uints_of.Goals as goal

pub loop-i-init : goal.loop-i-init
loop-i-init c = rw c.in_ok-list.ensures.items (starts (uint_at c.args.end) (λ n. n) c.args.bitmap.now c.args.count 0 c.args.bytes.now)

pub returns-in_err-n : goal.returns-in_err-n
returns-in_err-n c =
    let p = err_from_is_err_and c.from_residual-in_err-n.result c.from_residual-in_err-n.ensures.1 in
    let total = values_at (uint_at c.args.end) (λ n. n) (nulls_from c.args.bitmap.now 0 c.args.count) 0 c.args.bytes.now in
    rw (p.1, p.2) (fails_here (uint_at c.args.end) (λ n. n) c.loop-i.list.items c.args.bitmap.now c.args.count c.loop-i.i c.loop-i.before c.loop-i.rest.now c.in_err-n.field-0.0 total c.loop-i-test.true (sym c.is_null.ensures ∙ c.if-is_null.false) (sym c.in_err-n.ensures) c.loop-i.invariant)

pub loop-i-preserved : goal.loop-i-preserved
loop-i-preserved c =
    let total = values_at (uint_at c.args.end) (λ n. n) (nulls_from c.args.bitmap.now 0 c.args.count) 0 c.args.bytes.now in
    elim c.if-is_null.branch [
      | then-is_null+in-Ok w ↦ rw (w.list-is, w.before-is, w.rest-is, w.in-Ok.ensures.items) (null_next (uint_at c.args.end) (λ n. n) c.loop-i.list.items c.args.bitmap.now c.args.count c.loop-i.i c.loop-i.before c.loop-i.rest.now total c.loop-i-test.true (sym c.is_null.ensures ∙ w.if-is_null.true) c.loop-i.invariant)
      | else-is_null+in_ok-n+in-Ok-push w ↦ rw (w.list-is, w.before-is, w.rest-is, w.in-Ok-push.ensures.items) (value_next (uint_at c.args.end) (λ n. n) c.loop-i.list.items c.args.bitmap.now c.args.count c.loop-i.i c.loop-i.before c.loop-i.rest.now w.in_ok-n.n w.in_ok-n.behind.now total c.loop-i-test.true (sym c.is_null.ensures ∙ w.if-is_null.false) (sym w.in_ok-n.ensures) c.loop-i.invariant)
    ]

pub returns : goal.returns
returns c = is_done (uint_at c.args.end) (λ n. n) c.loop-i.list.items c.args.bitmap.now c.args.count c.loop-i.i c.loop-i.before c.loop-i.rest.now (values_at (uint_at c.args.end) (λ n. n) (nulls_from c.args.bitmap.now 0 c.args.count) 0 c.args.bytes.now) c.loop-i-test.false c.loop-i.invariant

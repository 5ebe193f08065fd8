use Rattle.std.proofs.Common.{sym}
use Rattle.std.proofs.lemmas.Result.{err_from_is_err_and}
use Rattle.flash_list.proofs.Each.{goes_on, fails, is_done, starts}
use Rattle.manifest_form.specs.Header.{column_at, columns_at, above}
use Rattle.manifest_form.proofs.Loop.{fault_is}
use Rattle.manifest_form.proofs.header.columns_of.Goals as goal

pub loop-init : goal.loop-init
unfolding columns_at
loop-init c = rw c.new-columns.ensures (starts (column_at c.args.stop) above c.args.count 0 c.args.bytes.now)

pub returns-in_err-column : goal.returns-in_err-column
returns-in_err-column c =
    let p = err_from_is_err_and c.from_residual.result c.from_residual.ensures.1 in
    let e = c.in_err-column.field-0.0 in
    rw (p.1, p.2) (fault_is e _ (fails (column_at c.args.stop) above c.loop.columns c.args.count c.loop.counter c.loop.least c.loop.rest.now e (columns_at c.args.stop c.args.count c.args.bytes.now) c.loop-test.true (sym c.in_err-column.ensures) c.loop.invariant))

pub loop-preserved : goal.loop-preserved
loop-preserved c =
    rw c.in-Ok.ensures.ok (goes_on (column_at c.args.stop) above c.loop.columns c.args.count c.loop.counter c.loop.least c.loop.rest.now c.in_ok-column.column c.in_ok-column.after.now (columns_at c.args.stop c.args.count c.args.bytes.now) c.loop-test.true (sym c.in_ok-column.ensures) c.loop.invariant)

pub returns : goal.returns
returns c = is_done (column_at c.args.stop) above c.loop.columns c.args.count c.loop.counter c.loop.least c.loop.rest.now (columns_at c.args.stop c.args.count c.args.bytes.now) c.loop-test.false c.loop.invariant

use Rattle.std.proofs.lemmas.Result.{err_from_is_err_and}
use Rattle.std.proofs.Common.{sym}
use Rattle.stable_file.specs.Steps.{one_for_each}
use Rattle.stable_file.specs.Footer as footer
use Rattle.stable_file.proofs.Going.{goes_on, fails_here, is_done, nothing_before}
use Rattle.stable_file.proofs.footer.ranges_of.Goals as goal

pub loop-column-init : goal.loop-column-init
loop-column-init c = rw c.new-ranges.ensures (nothing_before (one_for_each (footer.range_at c.args.end) c.args.columns.now c.args.bytes.now))

pub returns-in_err-range : goal.returns-in_err-range
returns-in_err-range c =
    let p = err_from_is_err_and c.from_residual.result c.from_residual.ensures.1 in
    rw (p.1, p.2) (fails_here (footer.range_at c.args.end) c.args.columns.now c.loop-column.column-index _ c.loop-column.ranges c.loop-column.rest.now c.in_err-range.field-0.0 (one_for_each (footer.range_at c.args.end) c.args.columns.now c.args.bytes.now) c.loop-column-test.true c.in_err-range.ensures c.loop-column.invariant)

pub loop-column-preserved : goal.loop-column-preserved
loop-column-preserved c = rw c.in-Ok.ensures.ok (goes_on (footer.range_at c.args.end) c.args.columns.now c.loop-column.column-index _ c.loop-column.ranges c.loop-column.rest.now c.in_ok-range.range c.in_ok-range.behind.now (one_for_each (footer.range_at c.args.end) c.args.columns.now c.args.bytes.now) c.loop-column-test.true (sym c.in_ok-range.ensures) c.loop-column.invariant)

pub returns : goal.returns
returns c = is_done (footer.range_at c.args.end) c.args.columns.now c.loop-column.column-index c.loop-column.ranges c.loop-column.rest.now (one_for_each (footer.range_at c.args.end) c.args.columns.now c.args.bytes.now) c.loop-column-test.false c.loop-column.invariant

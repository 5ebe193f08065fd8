use Rattle.std.proofs.Common.{◌+◌, slice_range}
use Rattle.std.proofs.lemmas.Result.{err_from_is_err_and}
use Rattle.column_codec.proofs.WriteSteps.{starts, goes_on, left_is, fails, is_done}
use Rattle.stable_file.proofs.BuildSteps.{left, column_left, none_left}
use Rattle.stable_file.proofs.write.put_ranges.Goals as goal

pub loop-k-init : goal.loop-k-init
loop-k-init c = starts c.args.into.now.items (left c.args.columns.now 0 (slice_range c.args.block.now c.args.from c.args.to))

pub returns-in_err-put_range : goal.returns-in_err-put_range
returns-in_err-put_range c =
    let p = err_from_is_err_and c.from_residual.result c.from_residual.ensures.1 in
    let versions = slice_range c.args.block.now c.args.from c.args.to in
    rw (p.1) (fails c.args.into.now.items c.loop-k.into.items (left c.args.columns.now c.loop-k.k versions) (left c.args.columns.now 0 versions) c.put_range.new.into.items c.loop-k.invariant c.in_err-put_range.ensures)

pub loop-k-preserved : goal.loop-k-preserved
loop-k-preserved c =
    let versions = slice_range c.args.block.now c.args.from c.args.to in
    let columns = c.args.columns.now in
    let k = c.loop-k.k in
    let first = column_left columns k versions _ c.loop-k-test.true in
    let so_far = left_is c.args.into.now.items c.loop-k.into.items (left columns k versions) _ (left columns 0 versions) first c.loop-k.invariant in
    goes_on c.args.into.now.items c.loop-k.into.items _ (left columns (k + 1) versions) (left columns 0 versions) c.put_range.new.into.items so_far c.in_ok-put_range.ensures

pub returns : goal.returns
returns c =
    let versions = slice_range c.args.block.now c.args.from c.args.to in
    is_done c.args.into.now.items c.loop-k.into.items (left c.args.columns.now c.loop-k.k versions) (left c.args.columns.now 0 versions) (none_left c.args.columns.now c.loop-k.k versions c.loop-k-test.false) c.loop-k.invariant

use Rattle.std.proofs.lemmas.Result.{err_from_is_err_and}
use Rattle.std.specs.List.{flat_map}
use Rattle.std.proofs.Common.{take, refl}
use Rattle.manifest_form.specs.Spelling as spelling
use Rattle.flash_put.proofs.Appending.{kept}
use Rattle.manifest_form.specs.Spelling.{ColumnFits}
use Rattle.manifest_form.proofs.Grow.{one_more, all_more}
use Rattle.manifest_form.proofs.put.put_each_column.Goals as goal

pub returns-in_err-put_column-clause-bytes : goal.returns-in_err-put_column-clause-bytes
returns-in_err-put_column-clause-bytes c =
    let p = err_from_is_err_and c.from_residual.result c.from_residual.ensures.1 in
    rw (p.1) (kept c.args.into.now.items (flat_map spelling.column (take c.loop-column.column-index c.args.columns.now)) c.loop-column.into.items c.put_column.new.into.items c.loop-column.invariant.bytes c.in_err-put_column.ensures.bytes)

pub loop-column-preserved : goal.loop-column-preserved
loop-column-preserved c = record {
  bytes = one_more ColumnFits spelling.column c.args.columns.now c.loop-column.column-index _ _ refl c.loop-column-test.true c.args.into.now.items c.loop-column.into.items c.put_column.new.into.items c.loop-column.invariant.bytes c.in_ok-put_column.ensures.bytes;
  fits = all_more ColumnFits spelling.column c.args.columns.now c.loop-column.column-index _ _ refl c.loop-column-test.true c.loop-column.invariant.fits c.in_ok-put_column.ensures.fits;
}

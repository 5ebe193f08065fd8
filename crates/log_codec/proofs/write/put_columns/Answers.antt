use Rattle.std.proofs.lemmas.Result.{err_from_is_err_and}
use Rattle.std.specs.List.{flat_map}
use Rattle.std.proofs.Common.{take}
use Rattle.log_codec.specs.Spelling as spelling
use Rattle.flash_put.proofs.Appending.{kept}
use Rattle.log_codec.proofs.write.put_columns.Goals as goal

pub returns-in_err-put_column : goal.returns-in_err-put_column
returns-in_err-put_column c =
    let p = err_from_is_err_and c.from_residual.result c.from_residual.ensures.1 in
    rw (p.1) (kept c.args.into.now.items (flat_map spelling.column (take c.loop-column.column-index c.args.columns.now)) c.loop-column.into.items c.put_column.new.into.items c.loop-column.invariant c.in_err-put_column.ensures)

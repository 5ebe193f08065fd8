use Rattle.std.proofs.lemmas.Result.{err_from_is_err_and}
use Rattle.std.specs.List.{flat_map}
use Rattle.std.proofs.Common.{take}
use Rattle.log_codec.specs.Spelling as spelling
use Rattle.flash_put.proofs.Appending.{kept}
use Rattle.log_codec.proofs.write.put_each.Goals as goal

pub returns-in_err-put_op : goal.returns-in_err-put_op
returns-in_err-put_op c =
    let p = err_from_is_err_and c.from_residual.result c.from_residual.ensures.1 in
    rw (p.1) (kept c.args.into.now.items (flat_map spelling.op (take c.loop-op.op-index c.args.list.now)) c.loop-op.into.items c.put_op.new.into.items c.loop-op.invariant c.in_err-put_op.ensures)

use Rattle.std.proofs.Common.{length, ap, arith}
use Rattle.std.proofs.lemmas.List.Folds.{length-flat_map-take}
use Rattle.log_codec.specs.Spelling as spelling
use Rattle.committed_log.proofs.sizes.each_len.Goals as goal

pub overflow_add-len : goal.overflow_add-len
overflow_add-len c =
    let fits = length-flat_map-take spelling.op c.args.list.now c.loop-op.op-index c.op-item.result c.loop-op-test.true in
    let same = ap (λ o. length (spelling.op o)) c.op-item.is in
    omega (arith, fits, same, c.loop-op.invariant, c.op_len-len.ensures, c.requires.size)

use Rattle.std.proofs.lemmas.Result.{err_from_is_err_and}
use Rattle.stable_file.proofs.Outside.{outside}
use Rattle.stable_file.proofs.read.pack_in.Goals as goal

pub returns-in_err-bytes-clause-exact : goal.returns-in_err-bytes-clause-exact
returns-in_err-bytes-clause-exact g c = λ tells.
    let p = err_from_is_err_and c.from_residual.result c.from_residual.ensures.1 in
    rw (p.1, p.2) (outside c.in_err-bytes.field-0.0 _ c.in_err-bytes.ensures.outside)

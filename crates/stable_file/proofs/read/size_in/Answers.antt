use Rattle.std.proofs.Common.{◌-◌, ap, sym, ◌∙◌}
use Rattle.std.proofs.lemmas.Result.{err_from_is_err_and}
use Rattle.stable_file.specs.Footer.{size_at}
use Rattle.stable_file.proofs.Outside.{outside, form_fault, last_bytes}
use Rattle.stable_file.proofs.read.size_in.Goals as goal

pub returns-in_err-last-clause-exact : goal.returns-in_err-last-clause-exact
returns-in_err-last-clause-exact g c = λ tells.
    let p = err_from_is_err_and c.from_residual.result c.from_residual.ensures.1 in
    rw (p.1, p.2) (outside c.in_err-last.field-0.0 _ c.in_err-last.ensures.outside)

pub returns-in_err-size-clause-exact : goal.returns-in_err-size-clause-exact
returns-in_err-size-clause-exact g c = λ tells.
    let p = err_from_is_err_and c.from_residual-in_err-size.result c.from_residual-in_err-size.ensures.1 in
    let last = c.as_slice.ensures.value ∙ c.in_ok-last.ensures.told tells ∙ last_bytes c.args.len (g.R.Grip.Gripped.bytes c.args.grip.now) c.requires.some (c.requires.told tells) in
    rw (p.1, p.2) (form_fault c.in_err-size.field-0.0 _ (c.in_err-size.ensures.exact ∙ ap (size_at c.args.len (c.args.len - 12)) last))

pub returns-clause-exact : goal.returns-clause-exact
returns-clause-exact g c = λ tells.
    let last = c.as_slice.ensures.value ∙ c.in_ok-last.ensures.told tells ∙ last_bytes c.args.len (g.R.Grip.Gripped.bytes c.args.grip.now) c.requires.some (c.requires.told tells) in
    sym (c.in_ok-size.ensures.exact ∙ ap (size_at c.args.len (c.args.len - 12)) last)

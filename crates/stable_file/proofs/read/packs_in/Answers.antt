use Rattle.std.proofs.Common.{◌-◌, ap, sym, subst, ◌∙◌, arith}
use Rattle.std.proofs.lemmas.Result.{err_from_is_err_and}
use Rattle.stable_file.specs.Faults.{read_error, FailsOrDevice}
use Rattle.stable_file.specs.Footer.{footer_at}
use Rattle.stable_file.proofs.Outside.{no_end, end_fails, end_tells, form_fails}
use Rattle.stable_file.proofs.ToldPacks.{footer_told}
use Rattle.stable_file.proofs.read.packs_in.Goals as goal

pub returns-then-len-lt12-clause-exact : goal.returns-then-len-lt12-clause-exact
returns-then-len-lt12-clause-exact g c = λ tells. no_end c.args.len c.args.columns.now (g.R.Grip.Gripped.bytes c.args.grip.now) c.if-len-lt12.true (c.requires tells)

pub returns-in_err-size-clause-exact : goal.returns-in_err-size-clause-exact
returns-in_err-size-clause-exact g c = λ tells.
    let p = err_from_is_err_and c.from_residual.result c.from_residual.ensures.1 in
    rw (p.1, p.2) (end_fails c.args.len c.args.columns.now (g.R.Grip.Gripped.bytes c.args.grip.now) c.in_err-size.field-0.0 c.if-len-lt12.false (c.requires tells) (c.in_err-size.ensures.exact tells))

pub returns-in_err-packs-clause-exact : goal.returns-in_err-packs-clause-exact
returns-in_err-packs-clause-exact g c = λ tells.
    let p = err_from_is_err_and c.from_residual-in_err-packs.result c.from_residual-in_err-packs.ensures.1 in
    let part = c.as_slice.ensures.value ∙ c.in_ok-footer.ensures.told tells in
    let whole = end_tells c.args.len c.args.columns.now (g.R.Grip.Gripped.bytes c.args.grip.now) c.in_ok-size.size c.if-len-lt12.false (c.requires tells) c.in_ok-size.ensures.within.1 (c.in_ok-size.ensures.exact tells) ∙ ap (footer_at (c.args.len - 12) c.args.columns.now) (sym part) in
    rw (p.1, p.2) (subst (FailsOrDevice (read_error c.in_err-packs.field-0.0)) (sym whole) (form_fails c.in_err-packs.field-0.0 _ c.in_err-packs.ensures))

pub returns-clause-exact : goal.returns-clause-exact
returns-clause-exact g c = λ tells.
    let part = c.as_slice.ensures.value ∙ c.in_ok-footer.ensures.told tells in
    end_tells c.args.len c.args.columns.now (g.R.Grip.Gripped.bytes c.args.grip.now) c.in_ok-size.size c.if-len-lt12.false (c.requires tells) c.in_ok-size.ensures.within.1 (c.in_ok-size.ensures.exact tells) ∙ ap (footer_at (c.args.len - 12) c.args.columns.now) (sym part) ∙ c.in_ok-packs.ensures

pub returns-clause-lawful : goal.returns-clause-lawful
returns-clause-lawful g c = footer_told (c.args.len - 12) c.args.columns.now c.as_slice.result.now c.in_ok-packs.packs (omega (arith, c.ranges.len)) c.in_ok-packs.ensures

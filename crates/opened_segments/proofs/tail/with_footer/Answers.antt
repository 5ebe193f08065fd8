use Rattle.std.proofs.Common.{◌≡◌, ◌≤◌, ◌++◌, length, arith}
use Rattle.std.proofs.lemmas.Result.{err_from_is_err_and}
use Rattle.stable_file.specs.Opened.{IsTailOf}
use Rattle.opened_segments.specs.Tails.{IsTail, OfContent}
use Rattle.opened_segments.proofs.Ends.{ends_so, never_cut, sized_refused, tail_may_be_read}
use Rattle.opened_segments.proofs.Judging.{if_ok_on}
use Rattle.opened_segments.proofs.tail.with_footer.Goals as goal

pub returns-in_err-size-clause-refused : goal.returns-in_err-size-clause-refused
returns-in_err-size-clause-refused g c = λ tells.
    let p = err_from_is_err_and c.from_residual.result c.from_residual.ensures.1 in
    rw (p.1, p.2) (sized_refused (g.D.Disk.files c.args.disk.now) c.args.file c.args.len c.args.last.now c.in_err-size.field-0.0 c.requires.some (c.requires.last tells) c.in_err-size.ensures.refused)

pub returns-clause-told : goal.returns-clause-told
returns-clause-told g c = λ tells.
    if_ok_on c.joined.result (λ tail. tail.items ≡ c.in_ok-footer.footer.items ++ c.args.last.now) (λ tail. OfContent (g.D.Disk.files c.args.disk.now) c.args.file c.args.len (IsTailOf c.args.len tail.items))
    (λ tail is. ends_so (g.D.Disk.files c.args.disk.now) c.args.file c.args.len c.in_ok-size.size c.in_ok-footer.footer.items c.args.last.now tail.items c.in_ok-size.ensures.within c.requires.some (c.in_ok-footer.ensures.told tells) (c.requires.last tells) is) c.joined.ensures.ok

pub returns-clause-tail : goal.returns-clause-tail
returns-clause-tail g c =
    let least : c.in_ok-size.size ≤ length c.in_ok-footer.footer.items = omega (arith, c.if-len-size.false, c.len.ensures) in
    if_ok_on c.joined.result (λ tail. tail.items ≡ c.in_ok-footer.footer.items ++ c.args.last.now) (λ tail. IsTail c.args.len tail.items)
    (λ tail is. tail_may_be_read c.args.len c.in_ok-size.size c.in_ok-footer.footer.items c.args.last.now tail.items c.in_ok-size.ensures.within c.requires.some c.in_ok-footer.ensures.most least c.requires.most c.in_ok-size.ensures.told is) c.joined.ensures.ok

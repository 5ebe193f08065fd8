use Rattle.std.proofs.Common.{◌≡◌, ◌∙◌, ℕ, Some, length, sym, ap, subst}
use Rattle.std.proofs.lemmas.Result.{err_from_is_err_and}
use Rattle.flash_io.specs.Image.{Image, Holds}
use Rattle.stable_file.specs.Footer.{tail_at}
use Rattle.opened_segments.specs.Faults.{IsFaultOf, reading_faults}
use Rattle.opened_segments.proofs.Judging.{one_content}
use Rattle.opened_segments.proofs.stable.file_of.Goals as goal

pub returns-in_err-tail-clause-exact : goal.returns-in_err-tail-clause-exact
returns-in_err-tail-clause-exact g c = λ tells content here.
    let p = err_from_is_err_and c.from_residual-in_err-tail.result c.from_residual-in_err-tail.ensures.1 in
    let e = c.in_err-tail.field-0.0 in
    let told = c.in_ok-len.ensures.length tells in
    let whole : length content ≡ c.in_ok-len.len = ap length (one_content (g.D.Disk.files c.args.disk.now) c.args.file content told.0 here told.1) ∙ told.2 in
    rw (p.1, p.2) (subst (λ (n : ℕ). IsFaultOf (reading_faults c.args.file (tail_at n c.args.schema.now content)) e) (sym whole)
    (c.in_err-tail.ensures.refused tells c.args.schema.now content (subst (λ (image : Image). Holds image c.args.file content) (sym c.in_ok-len.ensures.files) here) whole))

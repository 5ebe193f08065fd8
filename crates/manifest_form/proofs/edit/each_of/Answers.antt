use Rattle.std.proofs.Common.{sym}
use Rattle.std.proofs.lemmas.Result.{err_from_is_err_and}
use Rattle.flash_list.proofs.Each.{goes_on, fails, is_done, starts}
use Rattle.manifest_form.specs.Edits.{file_at, each_file_at}
use Rattle.manifest_form.proofs.Loop.{fault_is}
use Rattle.manifest_form.proofs.edit.each_of.Goals as goal

pub loop-init : goal.loop-init
unfolding each_file_at
loop-init c = rw c.new-files.ensures (starts (file_at c.args.end) (λ _. tt {0}) c.args.count (tt {0}) c.args.bytes.now)

pub returns-in_err-file : goal.returns-in_err-file
returns-in_err-file c =
    let p = err_from_is_err_and c.from_residual.result c.from_residual.ensures.1 in
    let e = c.in_err-file.field-0.0 in
    rw (p.1, p.2) (fault_is e _ (fails (file_at c.args.end) (λ _. tt {0}) c.loop.files c.args.count c.loop.counter (tt {0}) c.loop.rest.now e (each_file_at c.args.end c.args.count c.args.bytes.now) c.loop-test.true (sym c.in_err-file.ensures) c.loop.invariant))

pub loop-preserved : goal.loop-preserved
loop-preserved c =
    rw c.in-Ok.ensures.ok (goes_on (file_at c.args.end) (λ _. tt {0}) c.loop.files c.args.count c.loop.counter (tt {0}) c.loop.rest.now c.in_ok-file.file c.in_ok-file.after.now (each_file_at c.args.end c.args.count c.args.bytes.now) c.loop-test.true (sym c.in_ok-file.ensures) c.loop.invariant)

pub returns : goal.returns
returns c = is_done (file_at c.args.end) (λ _. tt {0}) c.loop.files c.args.count c.loop.counter (tt {0}) c.loop.rest.now (each_file_at c.args.end c.args.count c.args.bytes.now) c.loop-test.false c.loop.invariant

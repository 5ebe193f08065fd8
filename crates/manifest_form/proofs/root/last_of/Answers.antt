use Rattle.std.proofs.Common.{length, [], Some, None, Ok, refl, sym, ap, ◌∙◌, ◌-◌}
use Rattle.std.proofs.lemmas.Result.{err_from_is_err_and}
use Rattle.manifest_form.specs.Walk.{root_step}
use Rattle.manifest_form.proofs.Walking.{starts, is_closed, is_damaged, fails, goes_on, is_done, root_good, root_bad}
use Rattle.manifest_form.specs.Roots.{file_named}
use Rattle.manifest_form.proofs.Taking.{none, take_from_start, closed_from_start, named_back, names_at}
use Rattle.manifest_form.proofs.root.last_of.Goals as goal

pub loop-init : goal.loop-init
loop-init c = record {
  walks = starts root_step (Some 4) (length c.args.bytes.now) (length c.args.bytes.now) None c.args.bytes.now;
  taken = ([], refl, none root_step (Some 4) 0 None);
}

pub returns-in_err-number-clause-name : goal.returns-in_err-number-clause-name
returns-in_err-number-clause-name c =
    let n = length c.args.bytes.now in
    let p = err_from_is_err_and c.from_residual.result c.from_residual.ensures.1 in
    rw (p.1, p.2) (sym (is_damaged root_step (Some 4) n n c.loop.counter c.loop.name c.loop.rest.now _ c.in_err-number.field-0.0 c.loop-test.true (sym c.in_err-number.ensures) c.loop.invariant.walks))

pub returns-in_err-file-clause-name : goal.returns-in_err-file-clause-name
returns-in_err-file-clause-name c =
    let n = length c.args.bytes.now in
    let p = err_from_is_err_and c.from_residual-in_err-file.result c.from_residual-in_err-file.ensures.1 in
    let found = rw c.in-Some.is at c.in_ok-number.ensures in
    rw (p.1, p.2) (sym (fails root_step (Some 4) n n c.loop.counter c.loop.name c.loop.rest.now _ c.in_err-file.field-0.0 c.in-Some.number.now c.in-Some.after.now c.loop-test.true (sym found) (root_bad c.saturating_sub-gate.result (n - length c.loop.rest.now) (n - length c.in-Some.after.now) c.loop.name c.in-Some.number.now (sym c.saturating_sub-gate.ensures) c.in_err-file.field-0.0 c.in_err-file.ensures) c.loop.invariant.walks))

pub loop-preserved : goal.loop-preserved
loop-preserved c =
    let n = length c.args.bytes.now in
    let found = rw c.in-Some.is at c.in_ok-number.ensures in
    let good = root_good c.saturating_sub-gate.result (n - length c.loop.rest.now) (n - length c.in-Some.after.now) c.loop.name c.in-Some.number.now (sym c.saturating_sub-gate.ensures) c.in_ok-file.file c.in_ok-file.field-0-1.now c.in_ok-file.ensures in
    record {
      walks = goes_on root_step (Some 4) n n c.loop.counter c.loop.name c.loop.rest.now _ (Some c.in_ok-file.file) c.in-Some.number.now c.in-Some.after.now c.loop-test.true (sym found) good c.loop.invariant.walks;
      taken = take_from_start root_step (Some 4) c.args.bytes.now c.loop.rest.now c.in-Some.after.now c.in-Some.number.now None c.loop.name (Some c.in_ok-file.file) (sym found) good c.loop.invariant.taken;
    }

pub returns-in_default-clause-name : goal.returns-in_default-clause-name
returns-in_default-clause-name c =
    let n = length c.args.bytes.now in
    let found = rw c.in_default.is at c.in_ok-number.ensures in
    let closed = is_closed root_step (Some 4) n n c.loop.counter c.loop.name c.loop.rest.now _ c.loop-test.true (sym found) c.loop.invariant.walks in
    ap Ok (ap file_named c.placed.ensures ∙ named_back c.saturating_sub-gate.result c.loop.name) ∙ sym closed

pub returns-in_default-clause-place : goal.returns-in_default-clause-place
returns-in_default-clause-place c =
    let found = rw c.in_default.is at c.in_ok-number.ensures in
    let last = closed_from_start root_step (Some 4) c.args.bytes.now c.loop.rest.now None c.loop.name (sym found) c.loop.invariant.taken in
    names_at c.args.bytes.now c.saturating_sub-gate.result c.loop.name c.placed.result c.placed.ensures (last.0, last.1, last.2 ∙ sym c.saturating_sub-gate.ensures, last.3)

pub returns-clause-name : goal.returns-clause-name
returns-clause-name c = let n = length c.args.bytes.now in sym (is_done root_step (Some 4) n n c.loop.counter c.loop.name c.loop.rest.now _ c.loop-test.false c.loop.invariant.walks)

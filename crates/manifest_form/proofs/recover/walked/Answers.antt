use Rattle.manifest_form.proofs.Taking.{none, take_more, at_closed}
use Rattle.std.proofs.Common.{◌≡◌, ◌∙◌, [], refl, length, Some, None, Ok, sym, ◌-◌}
use Rattle.std.proofs.lemmas.Result.{err_from_is_err_and}
use Rattle.manifest_form.specs.Walk.{manifest_step}
use Rattle.manifest_form.specs.Faults.{Fails}
use Rattle.manifest_form.proofs.Loop.{fault_is}
use Rattle.manifest_form.proofs.Walking.{starts, is_closed, is_damaged, goes_on, is_done, step_fails, moved}
use Rattle.manifest_form.proofs.recover.walked.Goals as goal

pub loop-init : goal.loop-init
loop-init c = record {
  walks = starts (manifest_step c.args.file) None c.args.len (length c.args.bytes.now) None c.args.bytes.now;
  formed = tt;
  taken = ([], refl, none (manifest_step c.args.file) None (c.args.len - length c.args.bytes.now) None);
}

pub returns-in_err-edits-clause-gives : goal.returns-in_err-edits-clause-gives
returns-in_err-edits-clause-gives c =
    let n = length c.args.bytes.now in
    let p = err_from_is_err_and c.from_residual.result c.from_residual.ensures.1 in
    let e = c.in_err-edits.field-0.0 in
    rw (p.1, p.2) (fault_is e _ (is_damaged (manifest_step c.args.file) None c.args.len n c.loop.counter c.loop.state c.loop.rest.now _ e c.loop-test.true (sym c.in_err-edits.ensures) c.loop.invariant.walks))

pub returns-in_default-clause-gives : goal.returns-in_default-clause-gives
returns-in_default-clause-gives c =
    let n = length c.args.bytes.now in
    let found = rw c.in_default.is at c.in_ok-edits.ensures in
    is_closed (manifest_step c.args.file) None c.args.len n c.loop.counter c.loop.state c.loop.rest.now _ c.loop-test.true (sym found) c.loop.invariant.walks

pub returns-in_err-next-clause-gives : goal.returns-in_err-next-clause-gives
returns-in_err-next-clause-gives c =
    let n = length c.args.bytes.now in
    let p = err_from_is_err_and c.from_residual-in_err-next.result c.from_residual-in_err-next.ensures.1 in
    let e = c.in_err-next.field-0.0 in
    let edits = c.in-Some.edits.now in
    let after = c.in-Some.after.now in
    let found = rw c.in-Some.is at c.in_ok-edits.ensures in
    let bad = moved (λ gate stop. Fails e (manifest_step c.args.file gate stop c.loop.state edits)) c.saturating_sub-gate.result c.saturating_sub-stop.result (c.args.len - length c.loop.rest.now) (c.args.len - length after) c.saturating_sub-gate.ensures c.saturating_sub-stop.ensures c.in_err-next.ensures.gives in
    rw (p.1, p.2) (step_fails (manifest_step c.args.file) None c.args.len n c.loop.counter c.loop.state c.loop.rest.now _ e edits after c.loop-test.true (sym found) bad c.loop.invariant.walks)

pub loop-preserved : goal.loop-preserved
loop-preserved c =
    let n = length c.args.bytes.now in
    let edits = c.in-Some.edits.now in
    let after = c.in-Some.after.now in
    let found = rw c.in-Some.is at c.in_ok-edits.ensures in
    let good = moved (λ gate stop. manifest_step c.args.file gate stop c.loop.state edits ≡ Ok (Some c.in_ok-next.next)) c.saturating_sub-gate.result c.saturating_sub-stop.result (c.args.len - length c.loop.rest.now) (c.args.len - length after) c.saturating_sub-gate.ensures c.saturating_sub-stop.ensures c.in_ok-next.ensures.gives in
    record {
      walks = goes_on (manifest_step c.args.file) None c.args.len n c.loop.counter c.loop.state c.loop.rest.now _ (Some c.in_ok-next.next) edits after c.loop-test.true (sym found) good c.loop.invariant.walks;
      formed = c.in_ok-next.ensures.formed;
      taken = take_more (manifest_step c.args.file) None c.args.len c.args.bytes.now c.loop.rest.now after edits None c.loop.state (Some c.in_ok-next.next) c.requires.within (sym found) good c.loop.invariant.taken;
    }

pub returns-in_default-clause-found : goal.returns-in_default-clause-found
returns-in_default-clause-found c =
    let found = rw c.in_default.is at c.in_ok-edits.ensures in
    let last = at_closed (manifest_step c.args.file) None c.args.len c.args.bytes.now c.loop.rest.now None c.loop.state c.requires.within (sym found) c.loop.invariant.taken in
    (last.0, last.1, last.2 ∙ sym c.saturating_sub-gate.ensures, last.3)

pub returns-clause-gives : goal.returns-clause-gives
returns-clause-gives c = let n = length c.args.bytes.now in is_done (manifest_step c.args.file) None c.args.len n c.loop.counter c.loop.state c.loop.rest.now _ c.loop-test.false c.loop.invariant.walks

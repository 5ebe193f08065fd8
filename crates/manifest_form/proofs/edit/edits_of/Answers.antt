use Rattle.std.proofs.Common.{sym, ◌∙◌, ◌-◌, length}
use Rattle.std.proofs.lemmas.Result.{err_from_is_err_and}
use Rattle.manifest_form.specs.Edits.{edits_of}
use Rattle.manifest_form.proofs.SomeEdits.{starts, goes_on, ended, is_done, fails_here, is_nil, is_some}
use Rattle.manifest_form.proofs.edit.edits_of.Goals as goal

pub loop-init : goal.loop-init
unfolding edits_of
loop-init c = rw c.new-edits.ensures (starts (length c.args.bytes.now) c.args.stop c.args.bytes.now)

pub returns-then-is_empty : goal.returns-then-is_empty
returns-then-is_empty c = ended c.loop.edits (length c.args.bytes.now - c.loop.counter) c.args.stop c.loop.rest.now (edits_of c.args.stop c.args.bytes.now) (is_nil c.loop.rest.now (sym c.is_empty.ensures ∙ c.if-is_empty.true)) c.loop.invariant

pub returns-in_err-edit : goal.returns-in_err-edit
returns-in_err-edit c =
    let p = err_from_is_err_and c.from_residual.result c.from_residual.ensures.1 in
    rw (p.1, p.2) (fails_here c.in_err-edit.field-0.0 c.loop.edits (length c.args.bytes.now) c.loop.counter c.args.stop c.loop.rest.now (edits_of c.args.stop c.args.bytes.now) c.loop-test.true (is_some c.loop.rest.now (sym c.is_empty.ensures ∙ c.if-is_empty.false)) c.in_err-edit.ensures c.loop.invariant)

pub loop-preserved : goal.loop-preserved
loop-preserved c =
    rw c.in-Ok.ensures.ok (goes_on c.loop.edits (length c.args.bytes.now) c.loop.counter c.args.stop c.loop.rest.now c.in_ok-edit.edit c.in_ok-edit.after.now (edits_of c.args.stop c.args.bytes.now) c.loop-test.true (is_some c.loop.rest.now (sym c.is_empty.ensures ∙ c.if-is_empty.false)) c.in_ok-edit.ensures c.loop.invariant)

pub returns : goal.returns
returns c = is_done c.loop.edits (length c.args.bytes.now) c.loop.counter c.args.stop c.loop.rest.now (edits_of c.args.stop c.args.bytes.now) c.loop-test.false c.loop.invariant

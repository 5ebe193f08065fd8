use Rattle.std.proofs.lemmas.Result.{err_from_is_err_and}
use Rattle.std.specs.List.{flat_map}
use Rattle.std.proofs.Common.{take}
use Rattle.manifest_form.specs.Spelling as spelling
use Rattle.flash_put.proofs.Appending.{kept}
use Rattle.manifest_form.specs.Spelling.{EditFits}
use Rattle.manifest_form.proofs.Grow.{one_more, all_more}
use Rattle.manifest_form.proofs.put.put_edits.Goals as goal

pub returns-in_err-put_edit-clause-bytes : goal.returns-in_err-put_edit-clause-bytes
returns-in_err-put_edit-clause-bytes c =
    let p = err_from_is_err_and c.from_residual.result c.from_residual.ensures.1 in
    rw (p.1) (kept c.args.into.now.items (flat_map spelling.edit (take c.loop-edit.edit-index c.args.edits.now)) c.loop-edit.into.items c.put_edit.new.into.items c.loop-edit.invariant.bytes c.in_err-put_edit.ensures.bytes)

pub loop-edit-preserved : goal.loop-edit-preserved
loop-edit-preserved c = record {
  bytes = one_more EditFits spelling.edit c.args.edits.now c.loop-edit.edit-index c.edit-item.result c.edit-item.result c.edit-item.is c.loop-edit-test.true c.args.into.now.items c.loop-edit.into.items c.put_edit.new.into.items c.loop-edit.invariant.bytes c.in_ok-put_edit.ensures.bytes;
  fits = all_more EditFits spelling.edit c.args.edits.now c.loop-edit.edit-index c.edit-item.result c.edit-item.result c.edit-item.is c.loop-edit-test.true c.loop-edit.invariant.fits c.in_ok-put_edit.ensures.fits;
}

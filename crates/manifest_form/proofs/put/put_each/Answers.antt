use Rattle.std.proofs.lemmas.Result.{err_from_is_err_and}
use Rattle.std.specs.List.{flat_map}
use Rattle.std.proofs.Common.{take, refl}
use Rattle.manifest_form.specs.Spelling as spelling
use Rattle.flash_put.proofs.Appending.{kept}
use Rattle.manifest_form.specs.Spelling.{StoredFits}
use Rattle.manifest_form.proofs.Grow.{one_more, all_more}
use Rattle.manifest_form.proofs.put.put_each.Goals as goal

pub returns-in_err-put_stored-clause-bytes : goal.returns-in_err-put_stored-clause-bytes
returns-in_err-put_stored-clause-bytes c =
    let p = err_from_is_err_and c.from_residual.result c.from_residual.ensures.1 in
    rw (p.1) (kept c.args.into.now.items (flat_map spelling.stored (take c.loop-file.file-index c.args.files.now)) c.loop-file.into.items c.put_stored.new.into.items c.loop-file.invariant.bytes c.in_err-put_stored.ensures.bytes)

pub loop-file-preserved : goal.loop-file-preserved
loop-file-preserved c = record {
  bytes = one_more StoredFits spelling.stored c.args.files.now c.loop-file.file-index _ _ refl c.loop-file-test.true c.args.into.now.items c.loop-file.into.items c.put_stored.new.into.items c.loop-file.invariant.bytes c.in_ok-put_stored.ensures.bytes;
  fits = all_more StoredFits spelling.stored c.args.files.now c.loop-file.file-index _ _ refl c.loop-file-test.true c.loop-file.invariant.fits c.in_ok-put_stored.ensures.fits;
}

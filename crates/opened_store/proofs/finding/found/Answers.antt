use Rattle.std.proofs.Common.{Option, Ok, sym, subst}
use Rattle.manifest.specs.Stores.{OpensAs}
use Rattle.manifest.specs.declared.store.Manifest.{Manifest}
use Rattle.store_image.specs.Images.{StandsFor}
use Rattle.opened_store.proofs.Leaving.{keeps_then, made_found, untouched_keeps}
use Rattle.opened_store.proofs.finding.found.Goals as goal

pub returns-else-not-is_of_log-clause-keeps : goal.returns-else-not-is_of_log-clause-keeps
returns-else-not-is_of_log-clause-keeps g c = λ tells. untouched_keeps g.D.Disk c.args.logs.now c.args.disk.now c.open.new.disk c.open.ensures.untouched

pub returns-then-not-is_of_log-clause-keeps : goal.returns-then-not-is_of_log-clause-keeps
returns-then-not-is_of_log-clause-keeps g c = λ tells. untouched_keeps g.D.Disk c.args.logs.now c.args.disk.now c.open.new.disk c.open.ensures.untouched

pub returns-in-Err-clause-keeps : goal.returns-in-Err-clause-keeps
returns-in-Err-clause-keeps g c = λ tells. untouched_keeps g.D.Disk c.args.logs.now c.args.disk.now c.open.new.disk c.open.ensures.untouched

pub returns-in-Ok-None-clause-found : goal.returns-in-Ok-None-clause-found
returns-in-Ok-None-clause-found g c =
    let d = g.D.Disk in
    made_found d c.args.logs.now c.args.disk.now c.made.new.disk c.made.result
    (λ tells. subst (λ (o : Option Manifest). OpensAs (d.files c.args.disk.now) (Ok o)) c.in-Ok-None.field-0-is (c.in-Ok-None.ensures.opened tells)) (λ tells. g.met.D.Disk.leaves_files c.made.new.disk tells) c.made.ensures.fresh c.made.ensures.kept

pub returns-in-Ok-None-clause-keeps : goal.returns-in-Ok-None-clause-keeps
returns-in-Ok-None-clause-keeps g c = λ tells.
    let d = g.D.Disk in
    let log = c.args.logs.now in
    let old = c.args.disk.now in
    let mid = c.open.new.disk in
    keeps_then d log old mid c.made.new.disk (untouched_keeps d log old mid c.open.ensures.untouched) (c.made.ensures.keeps tells) g.met.D.Disk.counts_now
    (λ A safe sound is. subst (StandsFor log A safe) (sym c.open.ensures.untouched.same) is)

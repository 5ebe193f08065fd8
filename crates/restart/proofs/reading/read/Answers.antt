use Rattle.flash_io.proofs.Runs.{untouched_then}
use Rattle.std.proofs.Common.{sym, subst}
use Rattle.store_image.specs.Images.{StandsFor}
use Rattle.restart.proofs.Judged.{kept_on, parts_cause, parts_keep, parts_stand, sure_keeps}
use Rattle.restart.proofs.reading.read.Goals as goal

pub returns-in-Err-parts_of-clause-cause : goal.returns-in-Err-parts_of-clause-cause
returns-in-Err-parts_of-clause-cause g c = λ tells. (parts_cause g.D.Disk c.args.logs.now c.args.disk.now c.found.new.disk c.in-Ok.manifest tells c.in-Ok.ensures.found c.in-Err-parts_of.cause (c.in-Err-parts_of.ensures.cause tells)).0

pub returns-in-Err-parts_of-clause-untouched : goal.returns-in-Err-parts_of-clause-untouched
returns-in-Err-parts_of-clause-untouched g c = λ tells refused.
    let d = g.D.Disk in
    untouched_then d.files d.may_leave d.moment d.left_since c.args.disk.now c.found.new.disk c.parts_of.new.disk
    ((parts_cause d c.args.logs.now c.args.disk.now c.found.new.disk c.in-Ok.manifest tells c.in-Ok.ensures.found c.in-Err-parts_of.cause (c.in-Err-parts_of.ensures.cause tells)).1 refused)
    c.in-Err-parts_of.ensures.untouched

pub returns-in-Err-parts_of-clause-keeps : goal.returns-in-Err-parts_of-clause-keeps
returns-in-Err-parts_of-clause-keeps g c = λ tells.
    parts_keep g.D.Disk c.args.logs.now g.met.D.Disk.counts_now c.args.disk.now c.found.new.disk c.parts_of.new.disk c.in-Ok.manifest tells c.in-Ok.ensures.found (g.met.D.Disk.leaves_files c.found.new.disk tells) (c.in-Ok.ensures.keeps tells) c.in-Err-parts_of.ensures.untouched

pub made_sure-requires-clause-made : goal.made_sure-requires-clause-made
made_sure-requires-clause-made g c = kept_on g.D.Disk c.args.logs.now c.args.disk.now c.found.new.disk c.parts_of.new.disk c.in-Ok.manifest c.in-Ok.ensures.found.how c.in-Ok-parts_of.ensures.untouched.outcomes.none_new

pub returns-in-Ok-made_sure-clause-stands : goal.returns-in-Ok-made_sure-clause-stands
returns-in-Ok-made_sure-clause-stands g c = λ tells A safe is.
    subst (StandsFor c.args.logs.now A safe) (sym c.in-Ok-made_sure.ensures.files)
    (parts_stand g.D.Disk c.args.logs.now g.met.D.Disk.counts_now c.args.disk.now c.found.new.disk c.parts_of.new.disk c.in-Ok.manifest tells c.in-Ok.ensures.found (g.met.D.Disk.leaves_files c.found.new.disk tells) (c.in-Ok.ensures.keeps tells) c.in-Ok-parts_of.ensures.untouched A safe is)

pub returns-in-Ok-made_sure-clause-keeps : goal.returns-in-Ok-made_sure-clause-keeps
returns-in-Ok-made_sure-clause-keeps g c = λ tells.
    sure_keeps g.D.Disk c.args.logs.now g.met.D.Disk.counts_now c.args.disk.now c.found.new.disk c.parts_of.new.disk c.in-Ok.manifest tells c.in-Ok.ensures.found (g.met.D.Disk.leaves_files c.found.new.disk tells) (c.in-Ok.ensures.keeps tells) c.in-Ok-parts_of.ensures.untouched
    c.made_sure.new.disk c.in-Ok-made_sure.ensures.files c.in-Ok-made_sure.ensures.none_new c.in-Ok-made_sure.ensures.any_moment

pub returns-in-Err-made_sure-clause-keeps : goal.returns-in-Err-made_sure-clause-keeps
returns-in-Err-made_sure-clause-keeps g c = λ tells.
    sure_keeps g.D.Disk c.args.logs.now g.met.D.Disk.counts_now c.args.disk.now c.found.new.disk c.parts_of.new.disk c.in-Ok.manifest tells c.in-Ok.ensures.found (g.met.D.Disk.leaves_files c.found.new.disk tells) (c.in-Ok.ensures.keeps tells) c.in-Ok-parts_of.ensures.untouched
    c.made_sure.new.disk c.in-Err-made_sure.ensures.files c.in-Err-made_sure.ensures.none_new c.in-Err-made_sure.ensures.any_moment

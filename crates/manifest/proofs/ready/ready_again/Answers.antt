use Rattle.flash_io.proofs.Moments.{weaken, then}
use Rattle.manifest.specs.Made.{MadeReady}
use Rattle.manifest.proofs.Making.{same_image, carried, carried_unmade}
use Rattle.manifest.proofs.ready.ready_again.Goals as goal

pub returns-clause-any_moment : goal.returns-clause-any_moment
returns-clause-any_moment g c =
    let D = g.D.Disk in
    let old = c.args.disk.now in
    let mid = c.read_file.new.disk in
    let looked = c.read_file.ensures.untouched in
    let first = weaken D.moment D.left_since old mid (D.may_leave old) (MadeReady (D.files old) (D.may_leave old)) looked.run (same_image (D.files old) (D.may_leave old)) in
    then D.moment D.left_since old mid c.mend.new.disk _ _ first c.mend.ensures.any_moment (carried (D.files old) (D.files mid) (D.may_leave old) (D.may_leave mid) looked.same looked.outcomes.none_new)

pub returns-clause-unmade : goal.returns-clause-unmade
returns-clause-unmade g c = λ unmade.
    let D = g.D.Disk in
    let old = c.args.disk.now in
    let mid = c.read_file.new.disk in
    let looked = c.read_file.ensures.untouched in
    c.mend.ensures.unmade (carried_unmade (D.files old) (D.files mid) (D.may_leave old) (D.may_leave mid) looked.same looked.outcomes.none_new unmade)

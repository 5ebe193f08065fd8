use Rattle.manifest.specs.Made.{MadeReady}
use Rattle.flash_io.proofs.Moments.{weaken, then}
use Rattle.std.proofs.lemmas.Result.{on_ok_weaker}
use Rattle.manifest.proofs.Making.{shut_gate, made_image, same_image, carried, made_unmade, carried_unmade}
use Rattle.manifest.proofs.ready.ready.Goals as goal

pub returns-clause-steady : goal.returns-clause-steady
returns-clause-steady g c = on_ok_weaker c.stage.result (shut_gate (g.D.Disk.may_leave c.stage.new.disk)) c.stage.ensures.created

pub returns-clause-any_moment : goal.returns-clause-any_moment
returns-clause-any_moment g c =
    let D = g.D.Disk in
    let old = c.args.disk.now in
    let mid = c.has_root.new.disk in
    let looked = c.has_root.ensures.untouched in
    let first = weaken D.moment D.left_since old mid (D.may_leave old) (MadeReady (D.files old) (D.may_leave old)) looked.run (same_image (D.files old) (D.may_leave old)) in
    then D.moment D.left_since old mid c.stage.new.disk _ _ first c.stage.ensures.made
    (λ x made. made_image (D.files old) (D.may_leave old) (λ d now. c.in_ok-has_root.ensures.absent (g.met.D.Disk.told old d now) c.if-branch.false) x (made.0, looked.outcomes.none_new made.0 made.1, made.2))

pub returns-clause-unmade : goal.returns-clause-unmade
returns-clause-unmade g c =
    let D = g.D.Disk in
    let old = c.args.disk.now in
    let new = c.stage.new.disk in
    let looked = c.has_root.ensures.untouched in
    let run = c.stage.ensures.made in
    made_unmade (D.files old) (D.files new) (D.may_leave old) (D.may_leave new) (λ d now. g.met.D.Disk.leaves_files old (g.met.D.Disk.told old d now))
    (λ d now. c.in_ok-has_root.ensures.absent (g.met.D.Disk.told old d now) c.if-branch.false)
    (λ x left. let from = run.each x (g.met.D.Disk.counts_now new (D.moment c.has_root.new.disk) x run.later left) in (from.0, looked.outcomes.none_new from.0 from.1, from.2))

pub returns-then-branch-clause-any_moment : goal.returns-then-branch-clause-any_moment
returns-then-branch-clause-any_moment g c =
    let D = g.D.Disk in
    let old = c.args.disk.now in
    let mid = c.has_root.new.disk in
    let looked = c.has_root.ensures.untouched in
    let first = weaken D.moment D.left_since old mid (D.may_leave old) (MadeReady (D.files old) (D.may_leave old)) looked.run (same_image (D.files old) (D.may_leave old)) in
    then D.moment D.left_since old mid c.ready_again.new.disk _ _ first c.ready_again.ensures.any_moment (carried (D.files old) (D.files mid) (D.may_leave old) (D.may_leave mid) looked.same looked.outcomes.none_new)

pub returns-then-branch-clause-unmade : goal.returns-then-branch-clause-unmade
returns-then-branch-clause-unmade g c = λ unmade.
    let D = g.D.Disk in
    let old = c.args.disk.now in
    let mid = c.has_root.new.disk in
    let looked = c.has_root.ensures.untouched in
    c.ready_again.ensures.unmade (carried_unmade (D.files old) (D.files mid) (D.may_leave old) (D.may_leave mid) looked.same looked.outcomes.none_new unmade)

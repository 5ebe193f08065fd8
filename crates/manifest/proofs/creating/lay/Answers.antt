use Rattle.std.proofs.Common.{length, inr}
use Rattle.flash_io.proofs.Moments.{weaken, then}
use Rattle.manifest.specs.Made.{OldOrNone}
use Rattle.manifest.proofs.Making.{ready_new, ready_apart, steady_unmade}
use Rattle.manifest.proofs.Created.{ok_so, staged_new, root_stays}
use Rattle.manifest.proofs.creating.lay.Goals as goal

pub returns-in_err-ready-clause-any_moment : goal.returns-in_err-ready-clause-any_moment
returns-in_err-ready-clause-any_moment g c = λ unmade.
    let D = g.D.Disk in
    let old = c.args.disk.now in
    weaken D.moment D.left_since old c.ready.new.disk _ _ c.ready.ensures.any_moment (ready_new (D.files old) (D.may_leave old) (λ d now. g.met.D.Disk.leaves_files old (g.met.D.Disk.told old d now)) unmade)

pub returns-clause-root : goal.returns-clause-root
returns-clause-root g c =
    let D = g.D.Disk in
    let mid = c.ready.new.disk in
    let new = c.stage.new.disk in
    let made = c.stage.ensures.made in
    ok_so c.stage.result (root_stays (D.may_leave mid) (D.may_leave new) (length c.args.bytes.now) c.in_ok-ready.ensures.steady (λ x left. made.each x (g.met.D.Disk.counts_now new (D.moment mid) x made.later left)))

pub returns-clause-unmade : goal.returns-clause-unmade
returns-clause-unmade g c = λ unmade.
    let D = g.D.Disk in
    let mid = c.ready.new.disk in
    let new = c.stage.new.disk in
    let made = c.stage.ensures.made in
    steady_unmade (D.files new) (D.may_leave new) (λ x left. g.met.D.Disk.leaves_files new (g.met.D.Disk.told new x left))
    (root_stays (D.may_leave mid) (D.may_leave new) (length c.args.bytes.now) c.in_ok-ready.ensures.steady (λ x left. made.each x (g.met.D.Disk.counts_now new (D.moment mid) x made.later left)))

pub returns-clause-any_moment : goal.returns-clause-any_moment
returns-clause-any_moment g c = λ unmade.
    let D = g.D.Disk in
    let old = c.args.disk.now in
    let mid = c.ready.new.disk in
    let run = c.ready.ensures.any_moment in
    let first = weaken D.moment D.left_since old mid _ (OldOrNone (D.may_leave old)) run (ready_new (D.files old) (D.may_leave old) (λ d now. g.met.D.Disk.leaves_files old (g.met.D.Disk.told old d now)) unmade) in
    then D.moment D.left_since old mid c.stage.new.disk _ _ first c.stage.ensures.made
    (λ x made. inr (staged_new (D.may_leave old) (D.may_leave mid) (length c.args.bytes.now) c.in_ok-ready.ensures.steady (λ y left. ready_apart (D.files old) (D.may_leave old) y (run.each y (g.met.D.Disk.counts_now mid (D.moment old) y run.later left))) x made))

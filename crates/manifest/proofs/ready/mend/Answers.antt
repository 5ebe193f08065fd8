use Rattle.std.proofs.lemmas.Result.{on_ok_weaker}
use Rattle.flash_io.proofs.Moments.{weaken, started}
use Rattle.manifest.proofs.Making.{shut_gate, torn_image, same_image, torn_unmade, carried_unmade}
use Rattle.manifest.proofs.ready.mend.Goals as goal

pub returns-in-Missing-clause-steady : goal.returns-in-Missing-clause-steady
returns-in-Missing-clause-steady g c = on_ok_weaker c.shut.result (shut_gate (g.D.Disk.may_leave c.shut.new.disk)) c.shut.ensures.durable

pub returns-in-Missing-clause-any_moment : goal.returns-in-Missing-clause-any_moment
returns-in-Missing-clause-any_moment g c =
    let D = g.D.Disk in
    let old = c.args.disk.now in
    weaken D.moment D.left_since old c.shut.new.disk _ _ c.shut.ensures.any_moment
    (torn_image (D.files old) (D.may_leave old) (λ d now. (c.args.root.now, c.requires.read (g.met.D.Disk.told old d now), c.in-Missing.ensures)))

pub returns-in-Missing-clause-unmade : goal.returns-in-Missing-clause-unmade
returns-in-Missing-clause-unmade g c =
    let D = g.D.Disk in
    let old = c.args.disk.now in
    let new = c.shut.new.disk in
    let run = c.shut.ensures.any_moment in
    torn_unmade (D.files old) (D.files new) (D.may_leave old) (D.may_leave new) (λ d now. (c.args.root.now, c.requires.read (g.met.D.Disk.told old d now), c.in-Missing.ensures))
    (λ x left. run.each x (g.met.D.Disk.counts_now new (D.moment old) x run.later left))

pub returns-in-Closed-clause-any_moment : goal.returns-in-Closed-clause-any_moment
returns-in-Closed-clause-any_moment g c =
    let D = g.D.Disk in
    let old = c.args.disk.now in
    weaken D.moment D.left_since old c.settle.new.disk _ _ c.settle.ensures.any_moment (same_image (D.files old) (D.may_leave old))

pub returns-in-Closed-clause-unmade : goal.returns-in-Closed-clause-unmade
returns-in-Closed-clause-unmade g c =
    let D = g.D.Disk in
    let old = c.args.disk.now in
    let new = c.settle.new.disk in
    let run = c.settle.ensures.any_moment in
    carried_unmade (D.files old) (D.files new) (D.may_leave old) (D.may_leave new) c.settle.ensures.others (λ x left. run.each x (g.met.D.Disk.counts_now new (D.moment old) x run.later left))

pub returns-in-Open-clause-any_moment : goal.returns-in-Open-clause-any_moment
returns-in-Open-clause-any_moment g c =
    let D = g.D.Disk in
    let old = c.args.disk.now in
    started D.moment D.left_since old _ (λ x left. same_image (D.files old) (D.may_leave old) x (g.met.D.Disk.only_now old x left))

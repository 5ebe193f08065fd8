use Rattle.std.proofs.Common.{[], refl, inr}
use Rattle.flash_io.proofs.Moments.{weaken, then}
use Rattle.manifest.specs.Gated.{IsBeforeOrAfter}
use Rattle.manifest.specs.Made.{OldOrNone, OldOrMade}
use Rattle.manifest.proofs.Created.{ok_so, name, root_opened, file_stays, opened_unmade, none_or_made, none_apart}
use Rattle.manifest.proofs.creating.establish.Goals as goal

pub returns-clause-root : goal.returns-clause-root
returns-clause-root g c = c.commit.ensures.committed [] refl c.in_ok-lay.ensures.root

pub returns-clause-staged : goal.returns-clause-staged
returns-clause-staged g c =
    let D = g.D.Disk in
    let mid = c.lay.new.disk in
    let new = c.commit.new.disk in
    let run = c.commit.ensures.any_moment [] refl c.in_ok-lay.ensures.root in
    ok_so c.commit.result (file_stays 1 (λ e. absurd (cc e)) (D.may_leave mid) (D.may_leave new) c.args.bytes.now (IsBeforeOrAfter [] name) c.in_ok-lay.ensures.staged (λ x left. run.each x (g.met.D.Disk.counts_now new (D.moment mid) x run.later left)))

pub returns-clause-unmade : goal.returns-clause-unmade
returns-clause-unmade g c = λ unmade.
    let D = g.D.Disk in
    let mid = c.lay.new.disk in
    let new = c.commit.new.disk in
    let run = c.commit.ensures.any_moment [] refl c.in_ok-lay.ensures.root in
    opened_unmade (D.files new) (D.may_leave mid) (D.may_leave new) (λ x left. g.met.D.Disk.leaves_files new (g.met.D.Disk.told new x left)) (λ x left. run.each x (g.met.D.Disk.counts_now new (D.moment mid) x run.later left))

pub returns-clause-any_moment : goal.returns-clause-any_moment
returns-clause-any_moment g c = λ has read unmade.
    let D = g.D.Disk in
    let old = c.args.disk.now in
    let mid = c.lay.new.disk in
    let laid = c.in_ok-lay.ensures.any_moment unmade in
    let first = weaken D.moment D.left_since old mid _ (OldOrMade (D.may_leave old) has) laid (none_or_made (D.may_leave old) has) in
    then D.moment D.left_since old mid c.commit.new.disk _ _ first (c.commit.ensures.any_moment [] refl c.in_ok-lay.ensures.root)
    (λ x one. inr (root_opened (D.may_leave old) (D.may_leave mid) c.args.bytes.now has read (λ y left. none_apart (D.may_leave old) y (laid.each y (g.met.D.Disk.counts_now mid (D.moment old) y laid.later left))) c.in_ok-lay.ensures.staged x one))

pub returns-in_err-lay-clause-any_moment : goal.returns-in_err-lay-clause-any_moment
returns-in_err-lay-clause-any_moment g c = λ has read unmade.
    let D = g.D.Disk in
    let old = c.args.disk.now in
    weaken D.moment D.left_since old c.lay.new.disk (OldOrNone (D.may_leave old)) (OldOrMade (D.may_leave old) has) (c.lay.ensures.any_moment unmade) (none_or_made (D.may_leave old) has)

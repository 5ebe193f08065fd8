use Rattle.std.proofs.Common.{rules, ◌≡◌, ◌≤◌, [], ◌∷◌, sym, subst}
use Rattle.flash_io.specs.Crash.{LeavesOnly}
use Rattle.manifest.specs.Runs.{OldOrNew}
use Rattle.manifest.specs.Stores.{Becomes, has_of, has_with}
use Rattle.manifest_form.specs.States.{all_done}
use Rattle.manifest_form.specs.declared.state.Edit.TheVariants.{SafePoint}
use Rattle.replica_store.specs.Store.{IsWhole}
use Rattle.replica.specs.Learner.{IsLearner}
use Rattle.replica.proofs.Applying.{from_same, with_same}
use Rattle.replica.proofs.Following.{follows_itself}
use Rattle.replica.proofs.SafePoint.{edited, failed, learner_raised, succeeded}
use Rattle.replica.proofs.replica.Replica.set_safe_point.Goals as goal

pub returns-then-ts-current-clause-follows : goal.returns-then-ts-current-clause-follows
returns-then-ts-current-clause-follows g c = follows_itself g.D.Disk g.D.Reader.Grip.Gripped.bytes g.met.D.Disk.only_now c.args.self.now

pub returns-in_err-push-clause-follows : goal.returns-in_err-push-clause-follows
returns-in_err-push-clause-follows g c = follows_itself g.D.Disk g.D.Reader.Grip.Gripped.bytes g.met.D.Disk.only_now c.args.self.now

pub returns-in_err-commit-clause-follows : goal.returns-in_err-commit-clause-follows
returns-in_err-commit-clause-follows g c =
    let d = g.D.Disk in
    let store = c.self.inside.store in
    let m = store.manifest in
    let whole : IsWhole d store = subst (λ s. IsWhole d s.store) (sym c.self.view_is) c.requires.whole in
    let edits : c.as_slice.result.now ≡ SafePoint c.args.ts ∷ [] = search rules in
    let up : c.self.inside.state.numbers.safe_point ≤ c.args.ts = search rules in
    from_same c.self.view_is (failed d g.D.Reader.Grip.Gripped.bytes g.met.D.Disk.counts_now g.met.D.Disk.only_now (record { store = store; core = c.self.inside.state; retired = c.self.inside.retired.items }) c.told.ensures.order c.self.invariant.names (c.told-2.ensures.kept whole) whole c.args.ts up c.commit.new.self
    (subst (λ es. LeavesOnly d.moment d.left_since store.disk c.commit.new.self.disk (OldOrNew (d.may_leave store.disk) m.file (has_of m) (has_with m (all_done m.state es)))) edits c.commit.ensures.any_moment)
    c.commit.ensures.opened_faults c.commit.ensures.counted.later c.in_err-commit.ensures.refused)

pub invariant_of-self-2 : goal.invariant_of-self-2
invariant_of-self-2 g c =
    let store = c.self.inside.store in
    let m = store.manifest in
    let edits : c.as_slice.result.now ≡ SafePoint c.args.ts ∷ [] = search rules in
    let becomes : Becomes m (edited m c.args.ts) c.commit.new.self.manifest = subst (λ es. Becomes m (all_done m.state es) c.commit.new.self.manifest) edits c.in_ok-commit.ensures.done.manifest in
    subst (λ core. IsLearner (record { store = c.commit.new.self; core = core; retired = c.self.inside.retired.items })) (sym c.set_safe_point.ensures)
    (learner_raised (record { store = store; core = c.self.inside.state; retired = c.self.inside.retired.items }) c.commit.new.self c.args.ts c.self.invariant becomes)

pub returns-clause-follows : goal.returns-clause-follows
returns-clause-follows g c =
    let d = g.D.Disk in
    let store = c.self.inside.store in
    let m = store.manifest in
    let whole : IsWhole d store = subst (λ s. IsWhole d s.store) (sym c.self.view_is) c.requires.whole in
    let edits : c.as_slice.result.now ≡ SafePoint c.args.ts ∷ [] = search rules in
    let becomes : Becomes m (edited m c.args.ts) c.commit.new.self.manifest = subst (λ es. Becomes m (all_done m.state es) c.commit.new.self.manifest) edits c.in_ok-commit.ensures.done.manifest in
    let up : c.self.inside.state.numbers.safe_point ≤ c.args.ts = search rules in
    from_same c.self.view_is
    (with_same c.set_safe_point.ensures
    (succeeded d g.D.Reader.Grip.Gripped.bytes g.met.D.Disk.counts_now g.met.D.Disk.only_now (record { store = store; core = c.self.inside.state; retired = c.self.inside.retired.items }) c.told.ensures.order c.self.invariant.names (c.told-2.ensures.kept whole) whole c.args.ts up c.commit.new.self
    (subst (λ es. LeavesOnly d.moment d.left_since store.disk c.commit.new.self.disk (OldOrNew (d.may_leave store.disk) m.file (has_of m) (has_with m (all_done m.state es)))) edits c.commit.ensures.any_moment)
    c.commit.ensures.opened_faults c.commit.ensures.counted.later becomes c.in_ok-commit.ensures.done.kept))

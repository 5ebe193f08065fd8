use Rattle.std.proofs.Common.{◌≤◌, Err, sym, ap, subst}
use Rattle.flash_io.proofs.Runs.{untouched_none}
use Rattle.replica_store.specs.Store.{IsWhole, Untouched}
use Rattle.replica.proofs.Applying.{from_same}
use Rattle.replica.proofs.Following.{follows_itself}
use Rattle.replica.proofs.Purged.{disk_follows, follows_as, learner_as, learner_purged, purged_follows}
use Rattle.replica.proofs.replica.Replica.purge.Goals as goal

pub returns-in_default-clause-follows : goal.returns-in_default-clause-follows
returns-in_default-clause-follows g c = follows_itself g.D.Disk g.D.Reader.Grip.Gripped.bytes g.met.D.Disk.only_now c.args.self.now

pub returns-in_default-clause-untouched : goal.returns-in_default-clause-untouched
returns-in_default-clause-untouched g c = λ is. untouched_none g.D.Disk.files g.D.Disk.may_leave g.D.Disk.moment g.D.Disk.left_since g.met.D.Disk.only_now c.args.self.now.store.disk

pub returns-in-Err-Memory-clause-untouched : goal.returns-in-Err-Memory-clause-untouched
returns-in-Err-Memory-clause-untouched g c = λ is. subst (λ s. Untouched g.D.Disk s.store c.clear.new.store) c.self.view_is (c.in-Err-Memory.ensures.memory (ap Err c.in-Err-Memory.field-0-is))

pub returns-in-Err-Memory-clause-follows : goal.returns-in-Err-Memory-clause-follows
returns-in-Err-Memory-clause-follows g c =
    let d = g.D.Disk in
    let store = c.self.inside.store in
    let whole : IsWhole d store = subst (λ s. IsWhole d s.store) (sym c.self.view_is) c.requires.whole in
    from_same c.self.view_is
    ((disk_follows d g.D.Reader.Grip.Gripped.bytes g.met.D.Disk.counts_now (record { store = store; core = c.self.inside.state; retired = c.self.inside.retired.items }) (c.told.ensures.kept whole) whole c.as_slice-2.result.now c.clear.new.store
    c.clear.ensures.named.manifest c.clear.ensures.named.opened_faults c.clear.ensures.counted.later c.clear.ensures.any_moment))

pub invariant_of-self-in-Err-Device : goal.invariant_of-self-in-Err-Device
invariant_of-self-in-Err-Device g c =
    learner_as c.set_kept_from.ensures c.keep_from.ensures
    (learner_purged (record { store = c.self.inside.store; core = c.self.inside.state; retired = c.self.inside.retired.items }) c.clear.new.store c.clear.ensures.named.manifest c.args.kept_from c.self.invariant)

pub returns-in-Err-Device-clause-follows : goal.returns-in-Err-Device-clause-follows
returns-in-Err-Device-clause-follows g c =
    let d = g.D.Disk in
    let store = c.self.inside.store in
    let whole : IsWhole d store = subst (λ s. IsWhole d s.store) (sym c.self.view_is) c.requires.whole in
    let up : c.self.inside.state.numbers.kept_from ≤ c.args.kept_from = subst (λ s. s.core.numbers.kept_from ≤ c.args.kept_from) (sym c.self.view_is) c.requires.no_lower in
    from_same c.self.view_is
    (follows_as c.set_kept_from.ensures c.keep_from.ensures ((purged_follows d g.D.Reader.Grip.Gripped.bytes g.met.D.Disk.counts_now (record { store = store; core = c.self.inside.state; retired = c.self.inside.retired.items }) (c.told.ensures.kept whole) whole c.as_slice-2.result.now c.clear.new.store
    c.clear.ensures.named.manifest c.clear.ensures.named.opened_faults c.clear.ensures.counted.later c.clear.ensures.any_moment c.args.kept_from up)))

pub invariant_of-self-in-Ok-clear : goal.invariant_of-self-in-Ok-clear
invariant_of-self-in-Ok-clear g c =
    learner_as c.set_kept_from-in-Ok-clear.ensures c.keep_from-in-Ok-clear.ensures
    (learner_purged (record { store = c.self.inside.store; core = c.self.inside.state; retired = c.self.inside.retired.items }) c.clear.new.store c.clear.ensures.named.manifest c.args.kept_from c.self.invariant)

pub returns-clause-follows : goal.returns-clause-follows
returns-clause-follows g c =
    let d = g.D.Disk in
    let store = c.self.inside.store in
    let whole : IsWhole d store = subst (λ s. IsWhole d s.store) (sym c.self.view_is) c.requires.whole in
    let up : c.self.inside.state.numbers.kept_from ≤ c.args.kept_from = subst (λ s. s.core.numbers.kept_from ≤ c.args.kept_from) (sym c.self.view_is) c.requires.no_lower in
    from_same c.self.view_is
    (follows_as c.set_kept_from-in-Ok-clear.ensures c.keep_from-in-Ok-clear.ensures ((purged_follows d g.D.Reader.Grip.Gripped.bytes g.met.D.Disk.counts_now (record { store = store; core = c.self.inside.state; retired = c.self.inside.retired.items }) (c.told.ensures.kept whole) whole c.as_slice-2.result.now c.clear.new.store
    c.clear.ensures.named.manifest c.clear.ensures.named.opened_faults c.clear.ensures.counted.later c.clear.ensures.any_moment c.args.kept_from up)))

use Rattle.replica.proofs.Applying.{apply_follows, learner_applied, from_same, with_same}
use Rattle.replica.proofs.Following.{follows_itself}
use Rattle.replica.proofs.replica.Replica.apply.Goals as goal

pub invariant_of-self-2 : goal.invariant_of-self-2
invariant_of-self-2 g c = learner_applied (record { store = c.self.inside.store; core = c.self.inside.state; retired = c.self.inside.retired.items }) c.apply.new.self c.args.parsed.now.position c.told.ensures.order c.in_ok-applied.ensures.state c.self.invariant

pub returns-in_err-applied-clause-follows : goal.returns-in_err-applied-clause-follows
returns-in_err-applied-clause-follows g c = from_same c.self.view_is
    (with_same c.in_err-applied.ensures.refused (follows_itself g.D.Disk g.D.Reader.Grip.Gripped.bytes g.met.D.Disk.only_now (record { store = c.self.inside.store; core = c.self.inside.state; retired = c.self.inside.retired.items })))

pub returns-clause-follows : goal.returns-clause-follows
returns-clause-follows g c = from_same c.self.view_is
    (apply_follows g.D.Disk g.D.Reader.Grip.Gripped.bytes g.met.D.Disk.only_now (record { store = c.self.inside.store; core = c.self.inside.state; retired = c.self.inside.retired.items }) c.apply.new.self c.args.parsed.now.position c.told.ensures.order c.told.ensures.lawful c.in_ok-applied.ensures.state)

use Rattle.shared_replica.specs.Replies.{WasApplied}
use Rattle.shared_replica.proofs.Turning.{now_there, turn_applied}
use Rattle.shared_replica.proofs.turned.Turned.apply.Goals as goal

pub returns-clause-follows : goal.returns-clause-follows
returns-clause-follows g c = turn_applied c.args.self.now.bound c.args.parsed.now.position c.apply.new.self c.args.self.now.replica c.requires.below c.apply.ensures.follows c.in_ok-applied.ensures.state

pub returns-clause-is : goal.returns-clause-is
returns-clause-is g c = (
  c.in_ok-applied.ensures.applied,
  record {
    before = c.args.self.now.replica.core;
    did = c.in_ok-applied.ensures.state;
    there = now_there c.args.parsed.now.position c.args.self.now.replica.core c.apply.new.self.core c.in_ok-applied.ensures.state;
  },
)

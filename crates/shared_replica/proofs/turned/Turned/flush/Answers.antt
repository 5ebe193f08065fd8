use Rattle.shared_replica.specs.Following.{turn_itself}
use Rattle.shared_replica.proofs.Stepping.{flush_full, turn_alike}
use Rattle.shared_replica.proofs.turned.Turned.flush.Goals as goal

pub returns-in-Some-clause-follows : goal.returns-in-Some-clause-follows
returns-in-Some-clause-follows g c = turn_itself {d = g.D.Disk} {bytes = g.D.Reader.Grip.Gripped.bytes} g.met.D.Disk.only_now c.args.self.now.bound c.args.self.now.replica

pub returns-then-next-gt-MOST_NEXT-clause-follows : goal.returns-then-next-gt-MOST_NEXT-clause-follows
returns-then-next-gt-MOST_NEXT-clause-follows g c = turn_itself {d = g.D.Disk} {bytes = g.D.Reader.Grip.Gripped.bytes} g.met.D.Disk.only_now c.args.self.now.bound c.args.self.now.replica

pub returns-in-Ok-clause-follows : goal.returns-in-Ok-clause-follows
returns-in-Ok-clause-follows g c =
    turn_alike c.args.self.now.bound c.flush.new.self c.args.self.now.replica c.in-Ok.ensures.follows
    (flush_full c.args.seg _ c.args.self.now.replica c.flush.new.self c.in-Ok.ensures.done)

use Rattle.replica.proofs.Following.{follows_itself, follows_on}
use Rattle.replica.proofs.laws.replicas_follow.Goals as goal

pub returns-clause-itself : goal.returns-clause-itself
returns-clause-itself g c = λ x. follows_itself g.D.Disk g.D.Reader.Grip.Gripped.bytes g.met.D.Disk.only_now x

pub returns-clause-on : goal.returns-clause-on
returns-clause-on g c = λ x y z b a. follows_on g.D.Disk g.D.Reader.Grip.Gripped.bytes x y z b a

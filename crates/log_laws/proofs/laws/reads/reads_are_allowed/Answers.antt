use Rattle.committed_log.proofs.Answered.{reads_at}
use Rattle.log_laws.proofs.Granted.{settled_is, time_is}
use Rattle.log_laws.proofs.laws.reads.reads_are_allowed.Goals as goal

pub returns-clause-time : goal.returns-clause-time
returns-clause-time c = time_is

pub returns-clause-settled : goal.returns-clause-settled
returns-clause-settled c = settled_is

pub returns-clause-answered : goal.returns-clause-answered
returns-clause-answered c = reads_at

use Rattle.log_laws.proofs.Onward.{right_on}
use Rattle.log_laws.proofs.laws.longer.longer_logs_answer_the_same.Goals as goal

pub returns-clause-reply : goal.returns-clause-reply
returns-clause-reply c = right_on

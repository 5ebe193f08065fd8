use Rattle.log_laws.proofs.Onward.{rows_on}
use Rattle.log_laws.proofs.laws.longer.longer_logs_give_the_same_rows.Goals as goal

pub returns : goal.returns
returns c = rows_on

use Rattle.log_laws.proofs.Found.{found_is}
use Rattle.log_laws.proofs.laws.rows.found_rows_are_the_rows.Goals as goal

pub returns : goal.returns
returns c = found_is

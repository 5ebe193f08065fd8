use Rattle.log_laws.proofs.Unique.{one_by_rule}
use Rattle.log_laws.proofs.laws.rows.rules_determine_rows.Goals as goal

pub returns : goal.returns
returns c = one_by_rule

use Rattle.log_laws.proofs.Onward.{applied_on, closed_on, lawful_on}
use Rattle.log_laws.proofs.laws.longer.longer_logs_have_the_regions.Goals as goal

pub returns-clause-lawful : goal.returns-clause-lawful
returns-clause-lawful c = lawful_on

pub returns-clause-closed : goal.returns-clause-closed
returns-clause-closed c = closed_on

pub returns-clause-regions : goal.returns-clause-regions
returns-clause-regions c = applied_on

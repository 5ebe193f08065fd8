use Rattle.std.proofs.Common.{rules}
use Rattle.log_laws.proofs.Refused.{gone_refused}
use Rattle.log_laws.proofs.laws.refusals.gone_regions_are_refused.Goals as goal

pub returns : goal.returns
returns c = search (rules, gone_refused)

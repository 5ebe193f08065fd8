use Rattle.std.proofs.Common.{rules}
use Rattle.log_laws.proofs.Apart.{cuts_apart, one_owner, ranges_apart}
use Rattle.log_laws.proofs.laws.sets.regions_are_apart.Goals as goal

pub returns-clause-one : goal.returns-clause-one
returns-clause-one c = search (rules, one_owner)

pub returns-clause-ranges : goal.returns-clause-ranges
returns-clause-ranges c = ranges_apart

pub returns-clause-cuts : goal.returns-clause-cuts
returns-clause-cuts c = cuts_apart

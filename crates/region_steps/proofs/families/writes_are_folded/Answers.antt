use Rattle.std.proofs.Common.{rules}
use Rattle.region_steps.proofs.Folding.{write_is_fold}
use Rattle.region_steps.proofs.families.writes_are_folded.Goals as goal

pub returns : goal.returns
returns c = search (rules, write_is_fold)

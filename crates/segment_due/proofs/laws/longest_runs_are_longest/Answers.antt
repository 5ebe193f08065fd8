use Rattle.segment_due.proofs.Longest.{longest_is}
use Rattle.segment_due.proofs.laws.longest_runs_are_longest.Goals as goal

pub returns : goal.returns
returns c = longest_is

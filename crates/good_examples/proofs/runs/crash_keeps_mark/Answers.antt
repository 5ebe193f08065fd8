use Rattle.good_examples.proofs.Computed.{crash_keeps_mark}
use Rattle.good_examples.proofs.runs.crash_keeps_mark.Goals as goal

pub returns : goal.returns
returns c = crash_keeps_mark

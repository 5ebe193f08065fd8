use Rattle.stable_file.proofs.SieveRanges.{ranges_tell}
use Rattle.stable_file.proofs.laws.ranges_tell_of_rows.Goals as goal

pub returns : goal.returns
returns c = ranges_tell

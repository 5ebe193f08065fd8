use Rattle.good_replica.proofs.Covering.{clipped_silent}
use Rattle.good_replica.proofs.laws.segments.clipped_files_say_nothing.Goals as goal

pub returns : goal.returns
returns c = clipped_silent

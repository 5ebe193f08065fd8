use Rattle.segment_snapshot.proofs.Rightness.{right}
use Rattle.segment_snapshot.proofs.laws.good_segments_give_right_scans.Goals as goal

pub returns : goal.returns
returns g c = right

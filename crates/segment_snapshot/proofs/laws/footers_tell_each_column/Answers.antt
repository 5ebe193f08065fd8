use Rattle.segment_snapshot.proofs.Widths.{tail_width}
use Rattle.segment_snapshot.proofs.laws.footers_tell_each_column.Goals as goal

pub returns : goal.returns
returns c = tail_width

use Rattle.segment_list.proofs.Flushing.{repacked_or_same}
use Rattle.segment_list.proofs.laws.flushed_files_are_repacked.Goals as goal

pub returns : goal.returns
returns c = repacked_or_same

use Rattle.segment_flush.proofs.Flushed.{one_flush}
use Rattle.segment_flush.proofs.laws.one_slot_is_flushed.Goals as goal

pub returns : goal.returns
returns g c = λ n place s slots pairs here. one_flush n place s slots pairs here

use Rattle.segment_flush.proofs.Flushed.{renewed}
use Rattle.segment_flush.proofs.laws.flushed_slots_are_renewed.Goals as goal

pub returns : goal.returns
returns g c = λ p n slots. renewed p n slots

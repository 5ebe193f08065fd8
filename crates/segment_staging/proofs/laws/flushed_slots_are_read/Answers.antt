use Rattle.segment_staging.proofs.Reading.{slots_read}
use Rattle.segment_staging.proofs.laws.flushed_slots_are_read.Goals as goal

pub returns : goal.returns
returns g c = λ read own c columns first k last p n slots own_below le all was written. slots_read read own c columns first own_below k last p n slots le all was written

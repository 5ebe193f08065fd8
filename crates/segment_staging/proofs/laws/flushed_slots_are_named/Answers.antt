use Rattle.segment_staging.proofs.Named.{slots_back, slots_still}
use Rattle.segment_staging.proofs.laws.flushed_slots_are_named.Goals as goal

pub returns : goal.returns
returns g c = record {
  still = λ file committed last p n slots all is. slots_still file committed last p n slots all is;
  back = λ file committed last p n slots low all is. slots_back file committed last p n slots low all is;
}

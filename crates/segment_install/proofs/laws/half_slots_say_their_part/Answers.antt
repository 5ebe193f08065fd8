use Rattle.segment_install.proofs.Telling.{half_says}
use Rattle.segment_install.proofs.laws.half_slots_say_their_part.Goals as goal

pub returns : goal.returns
returns g c = λ id part n piece s ok. half_says id part n piece s ok

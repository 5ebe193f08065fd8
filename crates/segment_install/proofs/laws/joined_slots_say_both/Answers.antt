use Rattle.segment_install.proofs.Telling.{joined_says}
use Rattle.segment_install.proofs.laws.joined_slots_say_both.Goals as goal

pub returns : goal.returns
returns g c = λ id part n m piece below beside l r a b. joined_says id part n m piece below beside l r a b

use Rattle.good_state.proofs.Reading.{right_read}
use Rattle.good_state.proofs.reads.reads_of_good_states_are_right.Goals as goal

pub returns : goal.returns
returns g c = λ bytes s ask snapshot is lawful good it. right_read bytes s ask snapshot is lawful good it

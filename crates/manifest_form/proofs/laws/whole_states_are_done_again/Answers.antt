use Rattle.manifest_form.proofs.Segments.{whole_again}
use Rattle.manifest_form.proofs.laws.whole_states_are_done_again.Goals as goal

pub returns : goal.returns
returns c = λ file next s lt formed differ. whole_again file next s lt formed differ

use Rattle.manifest_form.proofs.Again.{edits_again}
use Rattle.manifest_form.proofs.laws.edits_are_read_again.Goals as goal

pub returns : goal.returns
returns c = λ end edits fits. edits_again end edits fits

use Rattle.stable_laws.proofs.Whole.{whole_spelled}
use Rattle.stable_laws.proofs.files_have_one_spelling.Goals as goal

pub returns : goal.returns
returns c = whole_spelled c.footers_have_one_spelling.ensures

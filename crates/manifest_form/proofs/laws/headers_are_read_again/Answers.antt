use Rattle.manifest_form.proofs.HeaderAgain.{header_again}
use Rattle.manifest_form.proofs.laws.headers_are_read_again.Goals as goal

pub returns : goal.returns
returns c = λ table columns fits schema all. header_again table columns fits schema all

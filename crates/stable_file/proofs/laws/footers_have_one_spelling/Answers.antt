use Rattle.stable_file.proofs.SpelledFooter.{footer_read}
use Rattle.stable_file.proofs.laws.footers_have_one_spelling.Goals as goal

pub returns : goal.returns
returns c = footer_read

use Rattle.column_codec.proofs.SpelledLists.{lists_spelled}
use Rattle.column_codec.proofs.laws.lists_have_one_spelling.Goals as goal

pub returns : goal.returns
returns c = lists_spelled

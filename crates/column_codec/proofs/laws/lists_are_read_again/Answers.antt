use Rattle.column_codec.proofs.Agree.{lists_again}
use Rattle.column_codec.proofs.laws.lists_are_read_again.Goals as goal

pub returns : goal.returns
returns c = lists_again

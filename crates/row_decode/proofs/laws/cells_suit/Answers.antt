use Rattle.row_decode.proofs.Suiting.{cells_fit}
use Rattle.row_decode.proofs.laws.cells_suit.Goals as goal

pub returns : goal.returns
returns c = cells_fit

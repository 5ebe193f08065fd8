use Rattle.column_block.specs.Suiting.{Suits}
use Rattle.delta_layer.proofs.Presents.{present_all}
use Rattle.delta_layer.proofs.laws.present_versions_suit.Goals as goal

pub returns : goal.returns
returns c = λ columns range stable files versions are old new. present_all (Suits columns) range stable files versions are old new

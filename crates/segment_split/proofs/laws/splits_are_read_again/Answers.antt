use Rattle.delta_layer.proofs.Attached.{two_open}
use Rattle.segment_split.specs.Halves.{lower, upper}
use Rattle.segment_split.proofs.Suited.{split_suits}
use Rattle.segment_split.proofs.laws.splits_are_read_again.Goals as goal

pub returns-clause-suit : goal.returns-clause-suit
returns-clause-suit g c = λ bytes columns old built suits gives. split_suits bytes columns old built suits gives

pub returns-clause-opens : goal.returns-clause-opens
returns-clause-opens g c = λ bytes columns rows at old built small some below suits is gives. two_open bytes c.pieces_are_read_again.ensures columns rows small some below (lower at old.range) (upper at old.range) built.pieces is.pieces (split_suits bytes columns old built suits gives)

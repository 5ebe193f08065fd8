use Rattle.delta_layer.proofs.Attached.{one_opens}
use Rattle.delta_merge.proofs.Suited.{delta_merge_suits}
use Rattle.delta_merge.proofs.laws.delta_merges_are_read_again.Goals as goal

pub returns-clause-suit : goal.returns-clause-suit
returns-clause-suit g c = λ bytes columns safe old built suits gives. delta_merge_suits bytes columns safe old built suits gives

pub returns-clause-opens : goal.returns-clause-opens
returns-clause-opens g c = λ bytes columns rows safe old built small some below suits is gives. one_opens bytes c.pieces_are_read_again.ensures columns rows small some below old.range built.pieces is.piece (delta_merge_suits bytes columns safe old built suits gives)

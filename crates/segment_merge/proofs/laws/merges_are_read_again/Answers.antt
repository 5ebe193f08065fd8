use Rattle.delta_layer.proofs.Attached.{one_opens}
use Rattle.segment_merge.specs.Joined.{joined}
use Rattle.segment_merge.proofs.Suited.{merge_suits}
use Rattle.segment_merge.proofs.laws.merges_are_read_again.Goals as goal

pub returns-clause-suit : goal.returns-clause-suit
returns-clause-suit g c = λ bytes columns left right built left_suits right_suits gives. merge_suits bytes columns left right built left_suits right_suits gives

pub returns-clause-opens : goal.returns-clause-opens
returns-clause-opens g c = λ bytes columns rows left right built small some below left_suits right_suits is gives. one_opens bytes c.pieces_are_read_again.ensures columns rows small some below (joined left.range right.range) built.pieces is.piece (merge_suits bytes columns left right built left_suits right_suits gives)

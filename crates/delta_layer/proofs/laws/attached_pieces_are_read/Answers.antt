use Rattle.std.proofs.Common.{◌∙◌, ap}
use Rattle.stable_file.specs.Opened.{grip_of, packs_of}
use Rattle.delta_layer.specs.Stable.{packs_in}
use Rattle.delta_layer.proofs.laws.attached_pieces_are_read.Goals as goal

pub returns-clause-some : goal.returns-clause-some
returns-clause-some g c = λ bytes file columns rows v vs tail len small some below rises suits piece ends whole schema told.
    ap (λ cs. packs_in cs (bytes (grip_of file)) (packs_of file)) schema
    ∙ c.pieces_are_read_again.ensures columns rows v vs (bytes (grip_of file)) tail len (packs_of file) small some below rises suits piece ends whole told

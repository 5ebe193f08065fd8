use Rattle.std.proofs.Common.{◌∷◌, arith}
use Rattle.column_block.proofs.Ordered.{rise_of}
use Rattle.delta_layer.proofs.Attached.{piece_reads}
use Rattle.delta_layer.proofs.laws.pieces_are_read_again.Goals as goal

pub returns : goal.returns
returns c = λ columns rows v vs content tail len packs small some below rises suits piece ends whole told.
    let up = rise_of (v ∷ vs) (λ none. absurd (omega (arith, none))) rises in
    piece_reads columns rows (v ∷ vs) content len tail packs some up (c.built_packs_are_read_again.ensures columns rows (v ∷ vs) small some up suits piece.1.packs) (c.built_footers_are_read_again.ensures columns rows (v ∷ vs) some below up suits piece.1) piece.0 ends whole told

use Rattle.std.proofs.Common.{◌∙◌, ◌∷◌, [], cond, sym, ap}
use Rattle.delta_layer.proofs.Places.{own_here}
use Rattle.delta_layer.proofs.merge.is_own.Goals as goal

pub returns : goal.returns
returns c = own_here c.args.version.now c.args.all.now c.args.to c.at.result.now c.at.ensures ∙ ap (λ b. cond b (c.args.version.now ∷ []) []) (sym c.is_before.ensures)

use Rattle.std.proofs.Common.{◌∙◌, ◌-◌, slice_get, sym, ap}
use Rattle.delta_layer.proofs.Packing.{rise_join}
use Rattle.delta_layer.proofs.stable.goes_on.Goals as goal

pub returns : goal.returns
returns c = c.is_before.ensures ∙ sym (rise_join c.args.all.now c.args.more.now c.at.result.now c.at-2.result.now c.requires.rising c.requires.more (ap (λ n. slice_get c.args.all.now (n - 1)) (sym c.len-2.ensures) ∙ c.at.ensures) c.at-2.ensures)

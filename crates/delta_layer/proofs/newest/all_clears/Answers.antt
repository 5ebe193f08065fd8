use Rattle.std.proofs.Common.{◌∙◌, ◌++◌, ◌∷◌, [], sym, ap, take}
use Rattle.std.proofs.lemmas.List.Elements.{filter_map-append}
use Rattle.std.specs.List.{cons_option}
use Rattle.delta_layer.specs.Overlay.{clear_in, clears_in}
use Rattle.delta_layer.proofs.Places.{take_more}
use Rattle.delta_layer.proofs.newest.all_clears.Goals as goal

pub loop-i-preserved : goal.loop-i-preserved
loop-i-preserved c =
    c.in_ok-add_clear.ensures ∙ ap (λ t. t ++ clears_in (c.file.result.now ∷ [])) c.loop-i.invariant
    ∙ sym (ap clears_in (take_more c.args.delta.now c.loop-i.i ∙ ap (λ o. take c.loop-i.i c.args.delta.now ++ cons_option o []) c.file.ensures) ∙ filter_map-append clear_in (take c.loop-i.i c.args.delta.now) (c.file.result.now ∷ []))

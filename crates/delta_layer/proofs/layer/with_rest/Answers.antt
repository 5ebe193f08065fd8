use Rattle.std.proofs.Common.{◌∙◌, ◌+◌, ◌∷◌, [], ◌++◌, drop, sym, ap, append_assoc}
use Rattle.std.specs.Arc.{arc_value}
use Rattle.delta_layer.proofs.Layers.{front_layered}
use Rattle.delta_layer.proofs.Places.{drop_here}
use Rattle.delta_layer.proofs.layer.with_rest.Goals as goal

pub add-requires : goal.add-requires
add-requires c =
    let here = drop_here c.args.from.now c.loop-i.i (arc_value c.in_ok-file.file) c.in_ok-file.ensures in
    front_layered c.loop-i.all (drop (c.loop-i.i + 1) c.args.from.now) (c.args.layer ++ drop c.args.start c.args.from.now) (arc_value c.in_ok-file.file) c.requires.layered (ap (λ t. c.loop-i.all ++ t) (sym here) ∙ c.loop-i.invariant)

pub loop-i-preserved : goal.loop-i-preserved
loop-i-preserved c =
    let here = drop_here c.args.from.now c.loop-i.i (arc_value c.in_ok-file.file) c.in_ok-file.ensures in
    ap (λ t. t ++ drop (c.loop-i.i + 1) c.args.from.now) c.in_ok-add.ensures
    ∙ append_assoc c.loop-i.all (arc_value c.in_ok-file.file ∷ []) (drop (c.loop-i.i + 1) c.args.from.now)
    ∙ ap (λ t. c.loop-i.all ++ t) (sym here) ∙ c.loop-i.invariant

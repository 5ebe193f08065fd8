use Rattle.std.proofs.Common.{◌∙◌, ◌∷◌, [], ◌++◌, drop, sym, ap, subst, append_assoc}
use Rattle.delta_layer.specs.Files.{IsLayered}
use Rattle.delta_layer.specs.Repacked.{replaced}
use Rattle.delta_layer.proofs.Layers.{front_layered}
use Rattle.delta_layer.proofs.layer.DeltaLayer.replaced.Goals as goal

pub with_one-requires : goal.with_one-requires
with_one-requires c =
    let whole = c.requires.layered (subst IsLayered c.self.view_is c.self.invariant.0.layered) in
    front_layered c.in_ok-front.front (drop c.args.to c.args.self.now) (replaced c.args.from c.args.to c.args.one c.args.self.now) c.args.one whole (ap (λ t. t ++ c.args.one ∷ drop c.args.to c.args.self.now) c.in_ok-front.ensures)

pub with_rest-requires-clause-layered : goal.with_rest-requires-clause-layered
with_rest-requires-clause-layered c =
    let whole = c.requires.layered (subst IsLayered c.self.view_is c.self.invariant.0.layered) in
    subst IsLayered (sym (ap (λ t. t ++ drop c.args.to c.args.self.now) c.in_ok-layer.ensures ∙ append_assoc c.in_ok-front.front (c.args.one ∷ []) (drop c.args.to c.args.self.now) ∙ ap (λ t. t ++ c.args.one ∷ drop c.args.to c.args.self.now) c.in_ok-front.ensures)) whole

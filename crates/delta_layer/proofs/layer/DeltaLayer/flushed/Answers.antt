use Rattle.std.proofs.Common.{◌+◌, sym, subst, arith}
use Rattle.delta_layer.specs.Files.{IsLayered}
use Rattle.delta_layer.specs.Repacked.{replaced}
use Rattle.delta_layer.proofs.Layers.{flushed_is_layered}
use Rattle.delta_layer.proofs.layer.DeltaLayer.flushed.Goals as goal

pub overflow_add-from : goal.overflow_add-from
overflow_add-from c = omega (arith, c.requires.within, c.first_mem-from.ensures.place, c.first_mem-from.ensures.count)

pub replaced-requires-clause-layered : goal.replaced-requires-clause-layered
replaced-requires-clause-layered c = λ layered. subst (λ from. IsLayered (replaced from (from + c.args.n) c.args.tiny c.args.self.now)) (sym c.first_mem-from.ensures.place) (flushed_is_layered c.args.self.now c.args.n c.args.tiny layered c.requires)

use Rattle.delta_layer.proofs.Layers.{compacted_is_layered}
use Rattle.delta_layer.proofs.layer.DeltaLayer.compacted.Goals as goal

pub replaced-requires-clause-layered : goal.replaced-requires-clause-layered
replaced-requires-clause-layered c = λ layered. compacted_is_layered c.args.self.now c.args.from c.args.to c.args.tiny layered c.requires

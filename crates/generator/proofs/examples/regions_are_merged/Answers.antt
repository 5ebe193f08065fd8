use Rattle.std.proofs.Common.{refl}
use Rattle.generator.specs.Generated.{random, begun, last_index}
use Rattle.generator.proofs.examples.regions_are_merged.Goals as goal

pub returns : goal.returns
unfolding random begun last_index
returns c = record { third = refl; seventh = refl; eighth = refl }

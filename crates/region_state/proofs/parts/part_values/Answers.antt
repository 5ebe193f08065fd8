use Rattle.std.proofs.Common.{◌∙◌, w64}
use Rattle.std.proofs.lemmas.Int.{to_z-of_z}
use Rattle.region_state.proofs.Parting.{values_below, values_from}
use Rattle.region_state.proofs.parts.part_values.Goals as goal

pub returns-in-Ok-clause-lower : goal.returns-in-Ok-clause-lower
returns-in-Ok-clause-lower c = c.in-Ok.ensures.below ∙ values_below _ c.args.at (to_z-of_z w64 _ c.ranges.at) c.args.values.now.entries

pub returns-in-Ok-clause-upper : goal.returns-in-Ok-clause-upper
returns-in-Ok-clause-upper c = c.in-Ok.ensures.from ∙ values_from _ c.args.at (to_z-of_z w64 _ c.ranges.at) c.args.values.now.entries

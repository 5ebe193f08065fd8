use Rattle.committed_log.proofs.RegionSteps.{stays_born}
use Rattle.committed_log.proofs.admit_regions.merge_regions.Goals as goal

pub set_region-requires-2 : goal.set_region-requires-2
set_region-requires-2 c = stays_born c.args.regions.now.entries _ c.args.source c.args.id _ c.requires.source c.set_region.ensures

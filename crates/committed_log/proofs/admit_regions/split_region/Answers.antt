use Rattle.committed_log.proofs.RegionSteps.{live_stays_born}
use Rattle.committed_log.proofs.admit_regions.split_region.Goals as goal

pub set_region-requires : goal.set_region-requires
set_region-requires c = live_stays_born c.args.regions.now.entries _ c.args.id c.args.child c.args.there _ c.requires.there c.in_default.ensures.ok

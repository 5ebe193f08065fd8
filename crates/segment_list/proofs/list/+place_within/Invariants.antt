use Rattle.std.proofs.Common.{length}
use Rattle.segment_list.proofs.list.+place_within.Given as goal

abbrev pub decreases-place_within : goal.decreases-place_within
decreases-place_within g l = length l.slots.now

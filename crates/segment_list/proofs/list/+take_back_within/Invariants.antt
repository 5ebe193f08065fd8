use Rattle.std.proofs.Common.{length}
use Rattle.segment_list.proofs.list.+take_back_within.Given as goal

abbrev pub decreases-take_back_within : goal.decreases-take_back_within
decreases-take_back_within g l = length l.slots.now

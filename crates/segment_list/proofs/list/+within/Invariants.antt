use Rattle.std.proofs.Common.{◌+◌, ◌*◌, length}
use Rattle.segment_list.proofs.list.+within.Given as goal

abbrev pub decreases-absorb_within : goal.decreases-absorb_within
decreases-absorb_within g l = 2 * length l.slots.now + 1

abbrev pub decreases-absorb_halves : goal.decreases-absorb_halves
decreases-absorb_halves g l = 2 * length l.slots.now

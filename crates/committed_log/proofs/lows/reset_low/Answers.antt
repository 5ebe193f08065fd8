use Rattle.std.proofs.Common.{w64}
use Rattle.std.proofs.lemmas.Int.{to_z-of_z}
use Rattle.committed_log.proofs.Options.{not_some}
use Rattle.committed_log.proofs.lows.reset_low.Goals as goal

pub unreachable-requires : goal.unreachable-requires
unreachable-requires c = not_some _ (simp (to_z-of_z w64 _ c.ranges.low) at c.in-Err.ensures.absent) c.requires

use Rattle.std.proofs.Common.{w64}
use Rattle.std.proofs.lemmas.Int.{to_z-of_z}
use Rattle.committed_log.proofs.Options.{one_fewer}
use Rattle.committed_log.proofs.families.remove_last.Goals as goal

pub returns-clause-gone : goal.returns-clause-gone
returns-clause-gone c = (simp (to_z-of_z w64 _ c.ranges.handle) at c.remove.ensures.updates).0

pub returns-clause-fewer : goal.returns-clause-fewer
returns-clause-fewer c there = one_fewer _ _ _ _ (simp (to_z-of_z w64 _ c.ranges.handle) at c.remove.ensures.value) there c.remove.ensures.len

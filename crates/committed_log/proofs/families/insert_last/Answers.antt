use Rattle.std.proofs.Common.{w64}
use Rattle.std.proofs.lemmas.Int.{to_z-of_z}
use Rattle.committed_log.proofs.families.insert_last.Goals as goal

pub returns-in-Ok-clause-before : goal.returns-in-Ok-clause-before
returns-in-Ok-clause-before c = simp (to_z-of_z w64 _ c.ranges.handle) at c.in-Ok.ensures.old

pub returns-in-Ok-clause-ok : goal.returns-in-Ok-clause-ok
returns-in-Ok-clause-ok c = (simp (to_z-of_z w64 _ c.ranges.handle) at c.in-Ok.ensures.updates).0

pub returns-in-Err-clause-absent : goal.returns-in-Err-clause-absent
returns-in-Err-clause-absent c = simp (to_z-of_z w64 _ c.ranges.handle) at c.in-Err.ensures.absent
